-- The requests (document 01, 'Messages'): the body of each operation, and what is read and written.
use Rattle.std.specs.Prelude.{ℕ, Bool, ◌&&◌, List, length, eqb}
use Rattle.octets.specs.Reading.{Read, ok, and_then}
use Rattle.octets.specs.Layout.{Layout, list_of, allowed}
use Rattle.octets.specs.Area.{Outcome, written, described}
use Rattle.octets.specs.Frame.{Message, encode, writable, receive}
use Rattle.octets.specs.declared.Form.{Form}
use Rattle.tags.specs.Entry.{Keyed, Held, key, memory}
use Rattle.lists.specs.Handed.{agrees, keys_of, belong, held_of}
use Rattle.resources.specs.Resource.{Grant, allocation}
use Rattle.requests.specs.Command.{Command, kind_of, command_number, known, form_at, command_at}
use Rattle.requests.specs.Command as c

-- what a request asks, and for which tags
pub data Body : Type 0 where
  resource_information : List Keyed → Body
  allocate : Grant → Body
  free : Keyed → Body
  read : Keyed → Body
  write : Held → Body
  bulk_read : List Keyed → Body
  bulk_write : List Held → Body

-- the operation of a body
abbrev pub command_of : Body → Command
command_of (resource_information ks) = c.resource_information
command_of (allocate g) = c.allocate
command_of (free k) = c.free
command_of (read k) = c.read
command_of (write h) = c.write
command_of (bulk_read ks) = c.bulk_read
command_of (bulk_write hs) = c.bulk_write

-- ---- the layout of each body, plain or with a password

-- its octets, plain or with passwords: "All other bodies are as the tables in 3.2.2 give them"
abbrev pub body_put : Form → Body → List ℕ
body_put w (resource_information ks) = (list_of (key w)).put ks
body_put w (allocate g) = (allocation w).put g
body_put w (free k) = (key w).put k
body_put w (read k) = (key w).put k
body_put w (write h) = (memory w).put h
body_put w (bulk_read ks) = (list_of (key w)).put ks
body_put w (bulk_write hs) = (list_of (memory w)).put hs

-- each of its values fits its field
abbrev pub body_fits : Form → Body → Bool
body_fits w (resource_information ks) = (list_of (key w)).fits ks
body_fits w (allocate g) = (allocation w).fits g
body_fits w (free k) = (key w).fits k
body_fits w (read k) = (key w).fits k
body_fits w (write h) = (memory w).fits h
body_fits w (bulk_read ks) = (list_of (key w)).fits ks
body_fits w (bulk_write hs) = (list_of (memory w)).fits hs

-- the body of an operation, read from the front
abbrev pub body_get : Command → Form → List ℕ → Read Body
body_get c.resource_information w l = and_then ((list_of (key w)).get l) (λ ks r. ok (resource_information ks) r)
body_get c.allocate w l = and_then ((allocation w).get l) (λ g r. ok (allocate g) r)
body_get c.free w l = and_then ((key w).get l) (λ k r. ok (free k) r)
body_get c.read w l = and_then ((key w).get l) (λ k r. ok (read k) r)
body_get c.write w l = and_then ((memory w).get l) (λ h r. ok (write h) r)
body_get c.bulk_read w l = and_then ((list_of (key w)).get l) (λ ks r. ok (bulk_read ks) r)
body_get c.bulk_write w l = and_then ((list_of (memory w)).get l) (λ hs r. ok (bulk_write hs) r)

-- the layout of an operation's body
abbrev pub body_of : Command → Form → Layout Body
body_of x w = record { put = body_put w; get = body_get x w; fits = λ b. eqb (command_number (command_of b)) (command_number x) && body_fits w b }

-- the layout of the body of each operation type; a type that is not in the table has none
unfoldable pub request_body : ℕ → Layout Body
request_body kind = allowed (known kind) (body_of (command_at kind) (form_at kind))

-- ---- what is read and written

-- the request that octets are
abbrev pub request_read : List ℕ → Read (Message Body)
request_read s = receive request_body s

-- a request of that version, plain or with passwords
abbrev pub request : ℕ → Form → Body → Message Body
request version w b = record { version = version; kind = kind_of (command_of b) w; body = b }

-- the octets of a request
abbrev pub request_octets : Message Body → List ℕ
request_octets m = encode request_body m

-- a request that may be written
abbrev pub request_writable : Message Body → Bool
request_writable m = writable request_body m

-- a request written into an area
abbrev pub request_sent : Message Body → List ℕ → Outcome × List ℕ
request_sent m old = written (request_writable m) (request_octets m) old

-- a bulk read of the tags that slices describe, written into an area
abbrev pub bulk_read_sent : Form → ℕ → List ℕ → List ℕ → List ℕ → Outcome × List ℕ
bulk_read_sent w version tags passwords old = described (agrees w (length tags) (length passwords)) (request_sent (request version w (bulk_read (keys_of w tags passwords))) old) old

-- a bulk write of the memory data that slices describe, written into an area
abbrev pub bulk_write_sent : Form → ℕ → List ℕ → List ℕ → List ℕ → List ℕ → List ℕ → List ℕ → Outcome × List ℕ
bulk_write_sent w version tags passwords starts lengths octets old =
    described (belong w tags passwords starts lengths octets) (request_sent (request version w (bulk_write (held_of w tags passwords starts lengths octets))) old) old
