-- What the answers of the readers of requests say of the octets s: document 01's number and values for each case. And where their parts lie: at the end of s.
-- Together they leave one answer (proofs/Unique).
use Rattle.std.specs.Prelude.{ℕ, ◌+◌, ◌≤◌, ◌<◌, ◌≡◌, List, [], length, drop, Result, Ok, Err}
use Rattle.octets.specs.Reading.{Read, bad, ok, forget, at_end, Told, message, refused, told, fault_number}
use Rattle.octets.specs.Layout.{Layout, entries}
use Rattle.octets.specs.Frame.{Message}
use Rattle.octets.specs.View.{within, entries_in}
use Rattle.octets.specs.declared.Entries.{Entries}
use Rattle.octets.specs.declared.Fault.{Fault}
use Rattle.octets.specs.declared.Form.{Form}
use Rattle.octets.specs.declared.Form.TheVariants as f
use Rattle.tags.specs.Entry.{form_of, key, memory}
use Rattle.resources.specs.View.{grant_in}
use Rattle.requests.specs.Command.{Command, kind_of}
use Rattle.requests.specs.Command as c
use Rattle.requests.specs.Request.{Body, body_of, request_body, request_read}
use Rattle.requests.specs.Request as b
use Rattle.requests.specs.declared.Operation.{Operation}
use Rattle.requests.specs.declared.Operation.TheVariants as o
use Rattle.requests.specs.declared.Request.{Request}

-- the operation type of each case
abbrev pub operation_kind : Operation → ℕ
operation_kind (o.Resources list) = kind_of c.resource_information f.Plain
operation_kind (o.Allocate x) = kind_of c.allocate (form_of x.access)
operation_kind (o.Free access tag) = kind_of c.free (form_of access)
operation_kind (o.Read access tag) = kind_of c.read (form_of access)
operation_kind (o.Write access tag p) = kind_of c.write (form_of access)
operation_kind (o.BulkRead w list) = kind_of c.bulk_read w
operation_kind (o.BulkWrite w list) = kind_of c.bulk_write w

-- its values; data and lists as they stand in s
abbrev pub operation_body : List ℕ → Operation → Body
operation_body s (o.Resources list) = b.resource_information (entries_in (key f.Plain) s list)
operation_body s (o.Allocate x) = b.allocate (grant_in s x)
operation_body s (o.Free access tag) = b.free (tag, access)
operation_body s (o.Read access tag) = b.read (tag, access)
operation_body s (o.Write access tag p) = b.write ((tag, access), within s p)
operation_body s (o.BulkRead w list) = b.bulk_read (entries_in (key w) s list)
operation_body s (o.BulkWrite w list) = b.bulk_write (entries_in (memory w) s list)

-- a list that ends where s ends
abbrev pub ListEnds : {A : Type 0} → Layout A → List ℕ → Entries → Type 0
ListEnds L s list = (list.start ≤ length s) × (forget (entries L list.count (drop list.start s)) ≡ ok tt [])

-- a part that a case shows ends where s ends
abbrev pub OperationPlace : List ℕ → Operation → Type 0
OperationPlace s (o.Resources list) = ListEnds (key f.Plain) s list
OperationPlace s (o.Allocate x) = x.initial.start + x.initial.len ≡ length s
OperationPlace s (o.Free access tag) = Unit {0}
OperationPlace s (o.Read access tag) = Unit {0}
OperationPlace s (o.Write access tag p) = p.start + p.len ≡ length s
OperationPlace s (o.BulkRead w list) = ListEnds (key w) s list
OperationPlace s (o.BulkWrite w list) = ListEnds (memory w) s list

-- ---- a body, from a place to the last octet

-- a value that was read to the last octet, as it is shown; or a fault
abbrev pub whole_in : {V A : Type 0} → (V → A) → Result V Fault → Read A
whole_in shown (Ok x) = ok (shown x) []
whole_in shown (Err f) = bad f

-- a body is of that operation type, and its part ends where s ends
abbrev pub DecodedPlace : List ℕ → ℕ → Result Operation Fault → Type 0
DecodedPlace s kind (Ok x) = (operation_kind x ≡ kind) × OperationPlace s x
DecodedPlace s kind (Err f) = Unit {0}

-- what reading the body of one operation at a place answers
pub record DecodedAs (x : Command) (w : Form) (s : List ℕ) (at : ℕ) (r : Result Operation Fault) : Type 0 where
  pub says : whole_in (operation_body s) r ≡ at_end ((body_of x w).get (drop at s))
  pub place : DecodedPlace s (kind_of x w) r

-- what reading the body of an operation type at a place answers
pub record DecodedAt (kind : ℕ) (s : List ℕ) (at : ℕ) (r : Result Operation Fault) : Type 0 where
  pub says : whole_in (operation_body s) r ≡ at_end ((request_body kind).get (drop at s))
  pub place : DecodedPlace s kind r

-- ---- a whole request

-- a request that was read; or document 01's number, and the kind of the fault
abbrev pub request_in : List ℕ → Result Request Fault → Told (Message Body)
request_in s (Ok q) = message (record { version = q.version; kind = operation_kind q.operation; body = operation_body s q.operation })
request_in s (Err f) = refused (fault_number f) f

-- the version is 0 to 15, and the part that is shown ends where s ends
abbrev pub RequestPlace : List ℕ → Result Request Fault → Type 0
RequestPlace s (Ok q) = (q.version < 16) × OperationPlace s q.operation
RequestPlace s (Err f) = Unit {0}

-- what reading a request answers
pub record Understood (s : List ℕ) (r : Result Request Fault) : Type 0 where
  pub says : request_in s r ≡ told (request_read s)
  pub place : RequestPlace s r
