-- The answers (document 01, 'Messages'): the answer's type is the request's plus 128; none carries a password. And the denial.
use Rattle.std.specs.Prelude.{ℕ, ◌+◌, ◌-◌, Bool, ◌&&◌, cond, List, [], length, get_or, ltb, leb, eqb}
use Rattle.octets.specs.Reading.{Read, bad, ok, and_then, at_end}
use Rattle.octets.specs.Layout.{Layout, list_of, allowed}
use Rattle.octets.specs.Area.{Outcome, written, described}
use Rattle.octets.specs.Frame.{Message, decode, encode, writable}
use Rattle.octets.specs.declared.Fault.TheVariants.{Other}
use Rattle.octets.specs.declared.Form.{Form}
use Rattle.octets.specs.declared.Form.TheVariants as f
use Rattle.tags.specs.Entry.{Keyed, Held, key, memory}
use Rattle.lists.specs.Handed.{belong, held_of}
use Rattle.resources.specs.Resource.{resources, alongside, resources_of}
use Rattle.resources.specs.declared.Room.{Room}
use Rattle.resources.specs.declared.Resource.{Resource}
use Rattle.requests.specs.Command.{Command, kind_of, command_number, known, command_at}
use Rattle.requests.specs.Command as c
use Rattle.answers.specs.Denial.{Denial, denial}

-- what an accepted request is answered with
pub data Body : Type 0 where
  resource_information : Room × List Resource → Body
  allocate : Keyed → Body
  free : Keyed → Body
  read : Held → Body
  write : Keyed → Body
  bulk_read : List Held → Body
  bulk_write : List Keyed → Body

-- the operation that it answers
abbrev pub command_of : Body → Command
command_of (resource_information x) = c.resource_information
command_of (allocate k) = c.allocate
command_of (free k) = c.free
command_of (read h) = c.read
command_of (write k) = c.write
command_of (bulk_read hs) = c.bulk_read
command_of (bulk_write ks) = c.bulk_write

-- ---- the layout of each body

-- its octets: "Bulk write answers list the tags written; bulk read answers list memory data."
abbrev pub body_put : Body → List ℕ
body_put (resource_information x) = resources.put x
body_put (allocate k) = (key f.Plain).put k
body_put (free k) = (key f.Plain).put k
body_put (read h) = (memory f.Plain).put h
body_put (write k) = (key f.Plain).put k
body_put (bulk_read hs) = (list_of (memory f.Plain)).put hs
body_put (bulk_write ks) = (list_of (key f.Plain)).put ks

-- each of its values fits its field
abbrev pub body_fits : Body → Bool
body_fits (resource_information x) = resources.fits x
body_fits (allocate k) = (key f.Plain).fits k
body_fits (free k) = (key f.Plain).fits k
body_fits (read h) = (memory f.Plain).fits h
body_fits (write k) = (key f.Plain).fits k
body_fits (bulk_read hs) = (list_of (memory f.Plain)).fits hs
body_fits (bulk_write ks) = (list_of (key f.Plain)).fits ks

-- the answer to an operation, read from the front
abbrev pub body_get : Command → List ℕ → Read Body
body_get c.resource_information l = and_then (resources.get l) (λ x r. ok (resource_information x) r)
body_get c.allocate l = and_then ((key f.Plain).get l) (λ k r. ok (allocate k) r)
body_get c.free l = and_then ((key f.Plain).get l) (λ k r. ok (free k) r)
body_get c.read l = and_then ((memory f.Plain).get l) (λ h r. ok (read h) r)
body_get c.write l = and_then ((key f.Plain).get l) (λ k r. ok (write k) r)
body_get c.bulk_read l = and_then ((list_of (memory f.Plain)).get l) (λ hs r. ok (bulk_read hs) r)
body_get c.bulk_write l = and_then ((list_of (key f.Plain)).get l) (λ ks r. ok (bulk_write ks) r)

-- the layout of the answer to an operation
abbrev pub body_of : Command → Layout Body
body_of x = record { put = body_put; get = body_get x; fits = λ b. eqb (command_number (command_of b)) (command_number x) && body_fits b }

-- "The answer's type is the request's plus 128"
abbrev pub answer_kind : Command → Form → ℕ
answer_kind x w = kind_of x w + 128

-- the layout of the body of each answer's type; a type that answers none of the 13 has none
unfoldable pub answer_body : ℕ → Layout Body
answer_body kind = allowed (leb 128 kind && known (kind - 128)) (body_of (command_at (kind - 128)))

-- ---- what is read and written

-- what the unit sends: an answer, or a denial
pub data Answer : Type 0 where
  accepted : Message Body → Answer
  denied : Denial → Answer

-- a denial is told by its second octet, 255
abbrev pub is_denial : List ℕ → Bool
is_denial s = eqb (get_or s 1 0) 255

-- "a denial (any status, supplement up to 127 octets)" or "an answer to one of the 13 operation types in the layouts above"
abbrev pub decode_answer : List ℕ → Read Answer
decode_answer s = cond (is_denial s) (and_then (at_end (denial.get s)) (λ d r. ok (denied d) r)) (and_then (decode answer_body s) (λ m r. ok (accepted m) r))

-- the answer that octets are; a fault "if the octets are over 2,048"
unfoldable pub answer_read : List ℕ → Read Answer
answer_read s = cond (ltb 2048 (length s)) (bad Other) (decode_answer s)

-- an answer of that version, to a request that was plain or with passwords
abbrev pub answer : ℕ → Form → Body → Message Body
answer version w b = record { version = version; kind = answer_kind (command_of b) w; body = b }

-- the octets of an answer
abbrev pub answer_octets : Answer → List ℕ
answer_octets (accepted m) = encode answer_body m
answer_octets (denied d) = denial.put d

-- an answer that may be written
abbrev pub answer_writable : Answer → Bool
answer_writable (accepted m) = writable answer_body m
answer_writable (denied d) = denial.fits d

-- an answer written into an area
abbrev pub answer_sent : Answer → List ℕ → Outcome × List ℕ
answer_sent a old = written (answer_writable a) (answer_octets a) old

-- resource information of the tags that slices describe, written into an area
abbrev pub resource_information_sent : ℕ → Room → List ℕ → List ℕ → List ℕ → List ℕ → List ℕ → Outcome × List ℕ
resource_information_sent version x tags modes held sizes old =
    described (alongside tags modes held sizes) (answer_sent (accepted (answer version f.Plain (resource_information (x, resources_of tags modes held sizes)))) old) old

-- a bulk read answer of the memory data that slices describe, written into an area
abbrev pub bulk_read_sent : Form → ℕ → List ℕ → List ℕ → List ℕ → List ℕ → List ℕ → Outcome × List ℕ
bulk_read_sent w version tags starts lengths octets old =
    described (belong f.Plain tags [] starts lengths octets) (answer_sent (accepted (answer version w (bulk_read (held_of f.Plain tags [] starts lengths octets)))) old) old
