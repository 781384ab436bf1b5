-- The owner's three demands of the responder, to be read from top to bottom: each sentence of theirs is quoted, in its order, above the proposition that it is, or the
-- place that says it.
-- `respond` is the definition of specs/Respond; what the code promises is `Responded` of it (specs/Entry, and the contract of `respond` in src/lib.rt).
-- The propositions of this file are proved by name in proofs/Demands; what the definition is and is not: proofs/Starred, Known, Runs, Cases, Excluded.
use Rattle.std.specs.Prelude.{ℕ, ◌≡◌, List, [], ◌∷◌, ◌++◌, length, drop}
use Rattle.octets.specs.Frame.{Message}
use Rattle.octets.specs.Number.{bare}
use Rattle.octets.specs.Reading.{Octets, Told, message, refused, told, ok}
use Rattle.octets.specs.declared.Access.TheVariants.{Plain, Password}
use Rattle.octets.specs.declared.Port.{Port}
use Rattle.tags.specs.Entry.{Keyed, Held}
use Rattle.requests.specs.Request.{request_read}
use Rattle.requests.specs.Request as q
use Rattle.answers.specs.Answer.{Answer, denied, answer_read, answer_octets}
use Rattle.answers.specs.Denial.{Denial}
use Rattle.admission.specs.declared.Head.{Head}
use Rattle.rows.specs.Keyed.{here, change}
use Rattle.store.specs.Model.{State, Tag, tag_id, holding, Valid, Shows}
use Rattle.store.specs.Steps.{registered}
use Rattle.responder.specs.Respond.{Result, silent, replied, respond}
use Rattle.responder.specs.Entry.{area_for, Responded}
use Rattle.responder.specs.declared.Reply.{Reply}
use Rattle.responder.specs.Entry.{Sent}

-- ==== Demand 1

-- "Every sequence of octets, on either port, gets exactly one reply or refusal": `respond` is a function, and the code's entry asks nothing of port, octets and area.
-- "fixed by those octets, the port, the unit's state and the answer area's length": of the code, two outcomes that the entry's promise allows are equal, in result,
-- answer area, head, table and memory.
abbrev pub Fixed : Type 0
Fixed = (u : State) (p : Port) (s old : List ℕ) (r r' : Reply) (new new' table table' pool pool' : List ℕ)
    → Responded (respond u p s (length old)) r old new table pool → Responded (respond u p s (length old)) r' old new' table' pool'
    → (r ≡ r') × (new ≡ new') × (table ≡ table') × (pool ≡ pool')

-- and of the area its length alone counts: areas of one length get the same answer, whatever they hold, and behind it each keeps what it held
abbrev pub FixedByLength : Type 0
FixedByLength = (u : State) (p : Port) (s old old' : List ℕ) (r r' : Reply) (new new' table table' pool pool' : List ℕ)
    → length old ≡ length old'
    → Responded (respond u p s (length old)) r old new table pool → Responded (respond u p s (length old')) r' old' new' table' pool'
    → (r ≡ r') × (table ≡ table') × (pool ≡ pool')
    × (new ≡ area_for (respond u p s (length old)).result old) × (new' ≡ area_for (respond u p s (length old)).result old')

-- "No public entry relies on its caller having checked anything": the contract of `respond` in src/lib.rt requires only that head, table and memory stand for a unit.
-- `.ci/promises` checks what each public entry requires.

-- "A refusal changes no tag": a denial leaves the unit as it was,
abbrev pub DenialKeeps : Type 0
DenialKeeps = (u : State) (p : Port) (s : List ℕ) (area : ℕ) (d : Denial) → (respond u p s area).result ≡ replied (denied d) → (respond u p s area).unit ≡ u

-- and so does a refusal without an answer
abbrev pub SilenceKeeps : Type 0
SilenceKeeps = (u : State) (p : Port) (s : List ℕ) (area n : ℕ) → (respond u p s area).result ≡ silent n → (respond u p s area).unit ≡ u

-- "and in the lent answer area it changes only the denial's own octets": of the code, what stands behind the denial is the old content,
abbrev pub DenialArea : Type 0
DenialArea = (u : State) (p : Port) (s old new table pool : List ℕ) (r : Reply) (d : Denial) → Responded (respond u p s (length old)) r old new table pool
    → (respond u p s (length old)).result ≡ replied (denied d) → new ≡ answer_octets (denied d) ++ drop (length (answer_octets (denied d))) old

-- "or nothing where no answer is given"
abbrev pub SilenceArea : Type 0
SilenceArea = (u : State) (p : Port) (s old new table pool : List ℕ) (r : Reply) (n : ℕ) → Responded (respond u p s (length old)) r old new table pool
    → (respond u p s (length old)).result ≡ silent n → new ≡ old

-- ==== Demand 2

-- "Reply and memory are those of RC-004's memory access application, as document 01 condenses it": the entry's promise, `Responded (respond ..)`.

-- "The message library writes only that guideline's packed encodings, accepts exactly those, and reads each back as the message it was written from": proofs of the
-- codec (requests, answers). Of the responder: whatever it replies to octets is read by the codec, as just that answer.
abbrev pub Readable : Type 0
Readable = (u : State) (p : Port) (s : List ℕ) (area : ℕ) (a : Answer) → Valid u → Octets s → (respond u p s area).result ≡ replied a
    → answer_read (answer_octets a) ≡ ok a []

-- ==== Demand 3

-- ---- two units

-- "Take two units alike in all but one password-protected tag's password and stored octets, its stored length being equal."
-- the tag's two records: s in the one unit, with the password a; t in the other, with the password b, which may be the same
pub record Protected (s t : Tag) (a b : ℕ) : Type 0 where
  pub tag : s.about.tag ≡ t.about.tag
  pub size : s.about.size ≡ t.about.size
  pub mode : s.about.mode ≡ t.about.mode
  pub spf : s.about.spf ≡ t.about.spf
  pub lock : s.about.lock ≡ Password a
  pub lock' : t.about.lock ≡ Password b
  pub held : length s.held ≡ length t.held

-- u has the tag x with the record s, and v is u with the record t in its place
pub record Twins (x : ℕ) (s t : Tag) (u v : State) : Type 0 where
  pub has : registered u x ≡ here s
  pub but : v ≡ holding u (change tag_id (bare x) (λ r. t) u.tags)

-- ---- the same commands

-- "Send both the same gate commands on the same ports, with like answer areas,"
-- a gate command: by which port, the octets sent, and the length of the answer area
pub record Command : Type 0 where
  pub port : Port
  pub request : List ℕ
  pub area : ℕ

-- what a unit says to commands one after another
unfoldable pub results : State → List Command → List Result
results u [] = []
results u (c ∷ cs) = (respond u c.port c.request c.area).result ∷ results (respond u c.port c.request c.area).unit cs

-- and the unit that they leave
unfoldable pub final : State → List Command → State
final u [] = u
final u (c ∷ cs) = final (respond u c.port c.request c.area).unit cs

-- the tags of memory data, each with what is carried for it
abbrev pub carried_of : List Held → List Keyed
carried_of [] = []
carried_of (h ∷ hs) = h.0 ∷ carried_of hs

-- "none carrying for that tag either unit's password for it."
-- every tag of a request with what it carries for it: of each kind of command, bulk entries and allocation included
abbrev pub carried : q.Body → List Keyed
carried (q.resource_information ks) = ks
carried (q.allocate g) = (g.tag, g.access) ∷ []
carried (q.free k) = k ∷ []
carried (q.read k) = k ∷ []
carried (q.write h) = h.0 ∷ []
carried (q.bulk_read ks) = ks
carried (q.bulk_write hs) = carried_of hs

-- what is carried for a tag is not, for the tag x, one of the two passwords; tags are compared with the six bits ignored
abbrev pub Spares : ℕ → ℕ → ℕ → Keyed → Type 0
Spares x a b (y, Plain) = Unit {0}
Spares x a b (y, Password w) = bare y ≡ bare x → (w ≡ a → ⊥) × (w ≡ b → ⊥)

-- and so of every tag of a request
unfoldable pub SparesAll : ℕ → ℕ → ℕ → List Keyed → Type 0
SparesAll x a b [] = Unit {0}
SparesAll x a b (k ∷ ks) = Spares x a b k × SparesAll x a b ks

-- nothing is asked of octets that do not decode
abbrev pub SparesTold : ℕ → ℕ → ℕ → Told (Message q.Body) → Type 0
SparesTold x a b (message m) = SparesAll x a b (carried m.body)
SparesTold x a b (refused n fault) = Unit {0}

-- and so of every command
unfoldable pub Clean : ℕ → ℕ → ℕ → List Command → Type 0
Clean x a b [] = Unit {0}
Clean x a b (c ∷ cs) = SparesTold x a b (told (request_read c.request)) × Clean x a b cs

-- ---- what both do

-- "Every reply is the same in both, octet by octet; all other tags stay alike; that tag's password and octets remain in each unit what they were at the start."
-- Of the definition: the same results, and units that are twins as at the start, by the same two records.
abbrev pub Secret : Type 0
Secret = (x : ℕ) (s t : Tag) (a b : ℕ) (u v : State) (cs : List Command) → Valid u → Protected s t a b → Twins x s t u v → Clean x a b cs
    → (results u cs ≡ results v cs)
    × Twins x s t (final u cs) (final v cs)

-- "all other tags stay alike; that tag's password and octets remain in each unit what they were at the start": tag by tag, each unit has its own record of the tag,
-- with its password and octets, and of any other tag both have the same
abbrev pub StillSecret : Type 0
StillSecret = (x : ℕ) (s t : Tag) (a b : ℕ) (u v : State) (cs : List Command) → Valid u → Protected s t a b → Twins x s t u v → Clean x a b cs
    → (registered (final u cs) x ≡ here s)
    × (registered (final v cs) x ≡ here t)
    × ((y : ℕ) → (bare y ≡ bare x → ⊥) → registered (final u cs) y ≡ registered (final v cs) y)

-- ---- what the code does in both

-- a command as it is sent to the code: with the octets of the lent area
pub record Sending : Type 0 where
  pub port : Port
  pub request : List ℕ
  pub area : List ℕ

-- the command that it is
abbrev pub command_of : Sending → Command
command_of c = record { port = c.port; request = c.request; area = length c.area }

-- and those of sendings one after another
abbrev pub commands_of : List Sending → List Command
commands_of [] = []
commands_of (c ∷ cs) = command_of c ∷ commands_of cs

-- what the code's promise allows to come of a sending: what its caller is told, and the area afterwards
pub record Did (u : State) (c : Sending) (o : Sent × List ℕ) : Type 0 where
  pub reply : Reply
  pub table : List ℕ
  pub pool : List ℕ
  pub says : o.0 ≡ reply.sent
  pub promised : Responded (respond u c.port c.request (length c.area)) reply c.area o.1 table pool

-- and of sendings one after another: each finds the unit that the one before left; after the last, head, table and memory stand for what it left
unfoldable pub Ran : State → List Sending → List (Sent × List ℕ) → Head → List ℕ → List ℕ → Type 0
Ran u [] outs head table pool = (outs ≡ []) × Shows u head table pool
Ran u (c ∷ cs) [] head table pool = ⊥
Ran u (c ∷ cs) (o ∷ outs) head table pool = Did u c o × Ran (respond u c.port c.request (length c.area)).unit cs outs head table pool

-- "Every reply is the same in both, octet by octet": of the code, whatever each does, both callers are told the same and find the same octets in their areas;
-- and what each leaves in head, table and memory is the unit that `StillSecret` speaks of
abbrev pub SecretRuns : Type 0
SecretRuns = (x : ℕ) (s t : Tag) (a b : ℕ) (u v : State) (cs : List Sending) (outs outs' : List (Sent × List ℕ)) (head head' : Head) (table table' pool pool' : List ℕ)
    → Valid u → Protected s t a b → Twins x s t u v → Clean x a b (commands_of cs)
    → Ran u cs outs head table pool → Ran v cs outs' head' table' pool'
    → (outs ≡ outs')
    × Shows (final u (commands_of cs)) head table pool
    × Shows (final v (commands_of cs)) head' table' pool'

-- ==== The fault that was inherited: "there a plain bulk write went through: yard staff wrote over counts that shippers had set"

-- a request is plain if it carries no password for any tag, single or bulk
abbrev pub AllPlain : List Keyed → Type 0
AllPlain [] = Unit {0}
AllPlain ((y, Plain) ∷ ks) = AllPlain ks
AllPlain ((y, Password w) ∷ ks) = ⊥

-- octets that do not decode carry none
abbrev pub PlainTold : Told (Message q.Body) → Type 0
PlainTold (message m) = AllPlain (carried m.body)
PlainTold (refused n fault) = Unit {0}

-- no plain command, allocation and free included, changes a tag that has a password
abbrev pub NoPlainWrite : Type 0
NoPlainWrite = (x : ℕ) (s : Tag) (q : ℕ) (u : State) (p : Port) (request : List ℕ) (area : ℕ) → Valid u → registered u x ≡ here s → s.about.lock ≡ Password q
    → PlainTold (told (request_read request)) → registered (respond u p request area).unit x ≡ here s

-- no plain command shows what it holds: with other octets of that length, and another password, the reply is the same
abbrev pub NoPlainRead : Type 0
NoPlainRead = (x : ℕ) (s t : Tag) (a b : ℕ) (u v : State) (p : Port) (request : List ℕ) (area : ℕ) → Valid u → Protected s t a b → Twins x s t u v
    → PlainTold (told (request_read request)) → (respond u p request area).result ≡ (respond v p request area).result
