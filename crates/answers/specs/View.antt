-- What the answers of the reader say of the octets s: document 01's number and values for each case. And where their parts lie: at the end of s.
-- Together they leave one answer (proofs/Unique).
use Rattle.std.specs.Prelude.{ℕ, ◌+◌, ◌<◌, ◌≡◌, List, length, drop, Result, Ok, Err}
use Rattle.octets.specs.Reading.{ok, and_then, at_end, Told, message, refused, told, fault_number}
use Rattle.octets.specs.View.{within, entries_in}
use Rattle.octets.specs.declared.Access.TheVariants.{Plain}
use Rattle.octets.specs.declared.Fault.{Fault}
use Rattle.octets.specs.declared.Form.{Form}
use Rattle.octets.specs.declared.Form.TheVariants as f
use Rattle.tags.specs.Entry.{Keyed, key, memory}
use Rattle.resources.specs.Resource.{resource}
use Rattle.requests.specs.Command.{Command}
use Rattle.requests.specs.Command as c
use Rattle.requests.specs.View.{whole_in, ListEnds}
use Rattle.answers.specs.Denial.{denial}
use Rattle.answers.specs.Answer.{Body, body_of, answer_kind, answer_body, answer_read, Answer, accepted, denied}
use Rattle.answers.specs.Answer as b
use Rattle.answers.specs.declared.Given.{Given}
use Rattle.answers.specs.declared.Given.TheVariants as g
use Rattle.answers.specs.declared.Reply.{Reply}
use Rattle.answers.specs.declared.Reply.TheVariants as r

-- the answer's type of each case
abbrev pub given_kind : Given → ℕ
given_kind (g.Resources x list) = answer_kind c.resource_information f.Plain
given_kind (g.Allocate w tag) = answer_kind c.allocate w
given_kind (g.Free w tag) = answer_kind c.free w
given_kind (g.Read w tag p) = answer_kind c.read w
given_kind (g.Write w tag) = answer_kind c.write w
given_kind (g.BulkRead w list) = answer_kind c.bulk_read w
given_kind (g.BulkWrite w list) = answer_kind c.bulk_write w

-- its values; data and lists as they stand in s
abbrev pub given_body : List ℕ → Given → Body
given_body s (g.Resources x list) = b.resource_information (x, entries_in resource s list)
given_body s (g.Allocate w tag) = b.allocate (tag, Plain)
given_body s (g.Free w tag) = b.free (tag, Plain)
given_body s (g.Read w tag p) = b.read ((tag, Plain), within s p)
given_body s (g.Write w tag) = b.write (tag, Plain)
given_body s (g.BulkRead w list) = b.bulk_read (entries_in (memory f.Plain) s list)
given_body s (g.BulkWrite w list) = b.bulk_write (entries_in (key f.Plain) s list)

-- a part that a case shows ends where s ends
abbrev pub GivenPlace : List ℕ → Given → Type 0
GivenPlace s (g.Resources x list) = ListEnds resource s list
GivenPlace s (g.Allocate w tag) = Unit {0}
GivenPlace s (g.Free w tag) = Unit {0}
GivenPlace s (g.Read w tag p) = p.start + p.len ≡ length s
GivenPlace s (g.Write w tag) = Unit {0}
GivenPlace s (g.BulkRead w list) = ListEnds (memory f.Plain) s list
GivenPlace s (g.BulkWrite w list) = ListEnds (key f.Plain) s list

-- ---- a body, from a place to the last octet

-- a tag as an answer names it
abbrev pub plain_tag : ℕ → Keyed
plain_tag tag = (tag, Plain)

-- a body is of that answer's type, and its part ends where s ends
abbrev pub DecodedPlace : List ℕ → ℕ → Result Given Fault → Type 0
DecodedPlace s kind (Ok x) = (given_kind x ≡ kind) × GivenPlace s x
DecodedPlace s kind (Err f) = Unit {0}

-- what reading the answer to one operation at a place answers
pub record DecodedAs (x : Command) (w : Form) (s : List ℕ) (at : ℕ) (r : Result Given Fault) : Type 0 where
  pub says : whole_in (given_body s) r ≡ at_end ((body_of x).get (drop at s))
  pub place : DecodedPlace s (answer_kind x w) r

-- what reading the body of an answer's type at a place answers
pub record DecodedAt (kind : ℕ) (s : List ℕ) (at : ℕ) (r : Result Given Fault) : Type 0 where
  pub says : whole_in (given_body s) r ≡ at_end ((answer_body kind).get (drop at s))
  pub place : DecodedPlace s kind r

-- ---- a whole answer

-- an answer or a denial that was read; or document 01's number, and the kind of the fault
abbrev pub reply_in : List ℕ → Result Reply Fault → Told Answer
reply_in s (Ok (r.Accepted version x)) = message (accepted (record { version = version; kind = given_kind x; body = given_body s x }))
reply_in s (Ok (r.Denied version status p)) = message (denied (record { version = version; status = status; supplement = within s p }))
reply_in s (Err f) = refused (fault_number f) f

-- the version is 0 to 15, and the part that is shown ends where s ends
abbrev pub ReplyPlace : List ℕ → Result Reply Fault → Type 0
ReplyPlace s (Ok (r.Accepted version x)) = (version < 16) × GivenPlace s x
ReplyPlace s (Ok (r.Denied version status p)) = (version < 16) × (p.start + p.len ≡ length s)
ReplyPlace s (Err f) = Unit {0}

-- what reading a denial answers
pub record DenialOf (s : List ℕ) (r : Result Reply Fault) : Type 0 where
  pub says : reply_in s r ≡ told (and_then (at_end (denial.get s)) (λ d t. ok (denied d) t))
  pub place : ReplyPlace s r

-- what reading an answer answers
pub record Understood (s : List ℕ) (r : Result Reply Fault) : Type 0 where
  pub says : reply_in s r ≡ told (answer_read s)
  pub place : ReplyPlace s r
