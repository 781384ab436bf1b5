-- The definitions at the boundaries that no exchange of the first kind of unit comes to, by computation: every operation type under each pair of options, the largest
-- numbers of resource information's fields, the shortest answer area, what is carried and counted of a request, and the store's calls that it amounts to. And that
-- there is what demand 3 speaks of: two such units, and commands that carry neither password.
use Prim.Native.Nat.{ℕ, zero, suc}
use native.Mathlib.Omega.{arith}
use mathlib.Core.Bool.{Bool, true, false, cond}
use mathlib.Core.List.{List, [], ◌∷◌, ◌++◌, map}
use mathlib.Core.Path.{◌≡◌, refl}
use Rattle.octets.specs.Length.{decode_length}
use Rattle.octets.specs.Number.{number, decode_number, bare}
use Rattle.octets.specs.Frame.{heading, enclosed, decode, receive}
use Rattle.octets.specs.declared.Access.TheVariants.{Plain, Password}
use Rattle.octets.specs.declared.Port.{Port}
use Rattle.octets.specs.declared.Port.TheVariants.{Normal, Secure}
use Rattle.tags.specs.Entry.{Keyed}
use Rattle.resources.specs.Resource.{mode_known}
use Rattle.resources.specs.declared.Resource.{Resource}
use Rattle.resources.specs.declared.Room.{Room}
use Rattle.requests.specs.Command.{known}
use Rattle.requests.specs.Request.{request_body}
use Rattle.requests.specs.Request as q
use Rattle.answers.proofs.Worked.{K, W, k, w, p, times}
use Rattle.admission.specs.Admission.{unit_managed, admission}
use Rattle.admission.specs.declared.Mode.{Mode}
use Rattle.admission.specs.declared.Mode.TheVariants.{Both, ReadOnly, WriteOnly}
use Rattle.rows.specs.Keyed.{look, change}
use Rattle.rows.proofs.Table.{is, should}
use Rattle.store.specs.History.{Call, allocate, free, write}
use Rattle.store.specs.Model.{Tag, State, new_unit, first_kind, total}
use Rattle.store.specs.Steps.{registered, allocate_step, write_step}
use Rattle.responder.specs.Demands.{Protected, Twins, Command, results, final, carried, SparesAll, Clean}
use Rattle.responder.specs.Log.{writes_of, calls_of, calls}
use Rattle.responder.specs.Respond.{denial, allocate_done, write_done, room_of, resource_as, act, fitted, first_lines, entries_of, handled, Result, silent, replied, respond}
use Rattle.responder.proofs.Starred.{fresh}
use Rattle.responder.proofs.Log.{log-sound}
use Rattle.responder.proofs.Secret.{secret}

-- a command with a whole answer area
abbrev by : Port → List ℕ → Command
by port request = record { port = port; request = request; area = 2048 }

-- document 01's P, and K with its six ignored bits set
abbrev P : ℕ
P = 0x0102030405060708

abbrev K3F : ℕ
K3F = 0x3F11223344556677

-- ---- operation types

-- those of the n from k on that are in the table with their options fitted
abbrev from : Bool → Bool → ℕ → ℕ → List ℕ
from allocation passwords k zero = []
from allocation passwords k (suc n) = cond (fitted allocation passwords k) (k ∷ from allocation passwords (suc k) n) (from allocation passwords (suc k) n)

-- of all 256
abbrev types : List (List ℕ × List ℕ)
types =
    (from true true 0 256, 0 ∷ 1 ∷ 2 ∷ 3 ∷ 4 ∷ 5 ∷ 6 ∷ 65 ∷ 66 ∷ 67 ∷ 68 ∷ 69 ∷ 70 ∷ [])
    ∷ (from false true 0 256, 0 ∷ 3 ∷ 4 ∷ 5 ∷ 6 ∷ 67 ∷ 68 ∷ 69 ∷ 70 ∷ [])
    ∷ (from true false 0 256, 0 ∷ 1 ∷ 2 ∷ 3 ∷ 4 ∷ 5 ∷ 6 ∷ [])
    ∷ (from false false 0 256, 0 ∷ 3 ∷ 4 ∷ 5 ∷ 6 ∷ [])
    ∷ []

pub types-hold : is types ≡ should types
unfolding fitted known
types-hold = refl

-- ---- the largest numbers of the fields

-- a new unit of a kind with so many tags, octets of memory, octets in a message and entries in a list
abbrev kind : ℕ → ℕ → ℕ → ℕ → State
kind tags memory message list = new_unit (record { tags = tags; memory = memory; area = 1024; message = message; list = list }) 1 true true

abbrev room : ℕ → ℕ → ℕ → ℕ → Room
room largest tags octets entries = record {
  largest = largest;
  tags = tags;
  octets = octets;
  volatile_tags = tags;
  volatile_octets = octets;
  entries = entries;
}

-- "one too great for its field is shown as the field's largest": two octets for tags and entries, four for the others; below, at and above the largest
abbrev rooms : List (Room × Room)
rooms =
    (room_of (kind 65534 4294967294 4294967294 65534), room 4294967294 65534 4294967294 65534)
    ∷ (room_of (kind 65535 4294967295 4294967295 65535), room 4294967295 65535 4294967295 65535)
    ∷ (room_of (kind 65536 4294967296 4294967296 65536), room 4294967295 65535 4294967295 65535)
    ∷ []

-- what is told of K
abbrev about : Mode → Bool → ℕ → ℕ → Resource
about mode spf size held = resource_as (record { tag = K; size = size; mode = mode; spf = spf; lock = Password 1 }) held

abbrev told : ℕ → ℕ → ℕ → Resource
told mode held size = record { tag = K; mode = mode; held = held; size = size }

abbrev resources : List (Resource × Resource)
resources =
    -- the data size of a tag that may not be read is 0
    (about Both false 9 5, told 0 5 9)
    ∷ (about ReadOnly true 9 5, told 6 5 9)
    ∷ (about WriteOnly false 9 5, told 1 0 9)
    ∷ (about Both false 4294967295 4294967294, told 0 4294967294 4294967295)
    ∷ (about Both false 4294967296 4294967296, told 0 4294967295 4294967295)
    ∷ []

pub fields-hold : (is rooms ≡ should rooms) × (is resources ≡ should resources)
unfolding total
fields-hold = (refl, refl)

-- ---- the answer area

-- "answer area shorter than 2,048 octets", before every other line
abbrev areas : List (Result × Result)
areas =
    ((respond fresh Normal [] 2047).result, silent 300)
    ∷ ((respond fresh Normal [] 2048).result, replied (denial 1 16))
    ∷ ((respond fresh Secure (0x20 ∷ []) 0).result, silent 300)
    ∷ ((respond fresh Secure (0x20 ∷ []) 2048).result, replied (denial 1 4))
    ∷ []

pub areas-hold : is areas ≡ should areas
unfolding respond handled first_lines
areas-hold = refl

-- ---- what a request carries, how many entries it has, and its calls

-- the seven operations, with two entries in a list
abbrev bodies : List q.Body
bodies =
    q.resource_information ((K, Plain) ∷ (W, Plain) ∷ [])
    ∷ q.allocate (record { tag = K; mode = 5; size = 9; access = Password 1; initial = 7 ∷ [] })
    ∷ q.free (K, Password 2)
    ∷ q.read (K, Password 3)
    ∷ q.write ((K, Password 4), 7 ∷ [])
    ∷ q.bulk_read ((K, Password 5) ∷ (W, Plain) ∷ [])
    ∷ q.bulk_write (((K, Password 6), 7 ∷ []) ∷ ((W, Plain), []) ∷ [])
    ∷ []

abbrev carried_by : List (List Keyed)
carried_by =
    ((K, Plain) ∷ (W, Plain) ∷ [])
    ∷ ((K, Password 1) ∷ [])
    ∷ ((K, Password 2) ∷ [])
    ∷ ((K, Password 3) ∷ [])
    ∷ ((K, Password 4) ∷ [])
    ∷ ((K, Password 5) ∷ (W, Plain) ∷ [])
    ∷ ((K, Password 6) ∷ (W, Plain) ∷ [])
    ∷ []

abbrev entries : List ℕ
entries = 2 ∷ 0 ∷ 0 ∷ 0 ∷ 0 ∷ 2 ∷ 2 ∷ []

abbrev called : List (List Call)
called =
    []
    ∷ (allocate K 9 WriteOnly true Secure (Password 1) ∷ [])
    ∷ (free K Secure (Password 2) ∷ [])
    ∷ []
    ∷ (write K (7 ∷ []) Secure (Password 4) ∷ [])
    ∷ []
    ∷ (write K (7 ∷ []) Secure (Password 6) ∷ write W [] Secure Plain ∷ [])
    ∷ []

-- a free of K; of octets that are denied, and for a short area, there are no calls; nor of a list of 17, though it is one of 16
abbrev commands : List (List Call × List Call)
commands =
    (calls fresh Normal ((0x10 ∷ 0x01 ∷ 0x02 ∷ 0x00 ∷ 0x08 ∷ []) ++ k) 2048, free K Normal Plain ∷ [])
    ∷ (calls fresh Normal ((0x10 ∷ 0x01 ∷ 0x02 ∷ 0x00 ∷ 0x08 ∷ []) ++ k) 2047, [])
    ∷ (calls fresh Normal ((0x20 ∷ 0x01 ∷ 0x02 ∷ 0x00 ∷ 0x08 ∷ []) ++ k) 2048, [])
    ∷ (calls fresh Normal ((0x10 ∷ 0x01 ∷ 0x02 ∷ 0x00 ∷ 0x07 ∷ []) ++ k) 2048, [])
    ∷ (calls fresh Normal ((0x10 ∷ 0x01 ∷ 0x06 ∷ 0x00 ∷ 0x80 ∷ 0x91 ∷ 0x10 ∷ []) ++ times 144 0x00) 2048, sixteen)
    ∷ (calls fresh Normal ((0x10 ∷ 0x01 ∷ 0x06 ∷ 0x00 ∷ 0x80 ∷ 0x9a ∷ 0x11 ∷ []) ++ times 153 0x00) 2048, [])
    ∷ []
  where
    two : List Call
    two = write 0 [] Normal Plain ∷ write 0 [] Normal Plain ∷ []

    eight : List Call
    eight = two ++ two ++ two ++ two

    sixteen : List Call
    sixteen = eight ++ eight

pub bodies-hold : (map carried bodies ≡ carried_by) × (map entries_of bodies ≡ entries) × (map (calls_of Secure) bodies ≡ called)
unfolding writes_of
bodies-hold = (refl, refl, refl)

pub commands-hold : is commands ≡ should commands
unfolding calls writes_of first_lines fitted known receive decode heading enclosed request_body decode_length decode_number number
commands-hold = refl

-- ---- what demand 3 speaks of is there

-- K is allocated with a password, W with P, and an octet is written to K
abbrev makes : List ℕ → ℕ → List Command
makes password x =
    by Normal ((0x10 ∷ 0x01 ∷ 0x41 ∷ 0x00 ∷ 0x16 ∷ []) ++ k ++ (0x00 ∷ 0x00 ∷ 0x00 ∷ 0x00 ∷ 0x01 ∷ []) ++ password ++ (0x00 ∷ []))
    ∷ by Normal ((0x10 ∷ 0x01 ∷ 0x41 ∷ 0x00 ∷ 0x16 ∷ []) ++ w ++ (0x00 ∷ 0x00 ∷ 0x00 ∷ 0x00 ∷ 0x01 ∷ []) ++ p ++ (0x00 ∷ []))
    ∷ by Normal ((0x10 ∷ 0x01 ∷ 0x44 ∷ 0x00 ∷ 0x12 ∷ []) ++ k ++ password ++ (0x01 ∷ x ∷ []))
    ∷ []

-- two units: K has the password P and holds AA, or has all zeros for a password and holds BB
abbrev one : State
one = final fresh (makes p 0xaa)

abbrev other : State
other = final fresh (makes (times 8 0x00) 0xbb)

abbrev record_of : ℕ → ℕ → Tag
record_of password x = record { about = record { tag = K; size = 1; mode = Both; spf = false; lock = Password password }; held = x ∷ [] }

pub protected-there : Protected (record_of P 0xaa) (record_of 0 0xbb) P 0
protected-there = record { tag = refl; size = refl; mode = refl; spf = refl; lock = refl; lock' = refl; held = refl }

-- by K with its six ignored bits set
pub twins-there : Twins K3F (record_of P 0xaa) (record_of 0 0xbb) one other
unfolding final respond handled first_lines fitted known receive decode heading enclosed request_body decode_length decode_number number mode_known act allocate_done write_done allocate_step write_step registered look change admission unit_managed bare total
twins-there = record { has = refl; but = refl }

-- commands that carry for K neither password: none, another, P for another tag, P as data, and octets that do not decode
abbrev clean : List Command
clean =
    by Normal ((0x10 ∷ 0x01 ∷ 0x06 ∷ 0x00 ∷ 0x12 ∷ 0x01 ∷ []) ++ k ++ (0x08 ∷ []) ++ p)
    ∷ by Secure ((0x10 ∷ 0x01 ∷ 0x43 ∷ 0x00 ∷ 0x10 ∷ []) ++ k ++ times 7 0x00 ++ (0x01 ∷ []))
    ∷ by Normal ((0x10 ∷ 0x01 ∷ 0x43 ∷ 0x00 ∷ 0x10 ∷ []) ++ w ++ p)
    ∷ by Normal ((0x10 ∷ 0x01 ∷ 0x43 ∷ 0x00 ∷ 0x0f ∷ []) ++ k ++ p)
    ∷ []

pub clean-there : Clean K3F P 0 clean
unfolding Clean SparesAll receive decode heading enclosed request_body decode_length decode_number number known bare
clean-there = ((tt, tt), (((λ e. (λ q. omega (arith, q), λ q. omega (arith, q))), tt), (((λ e. absurd (omega (arith, e))), tt), (tt, tt))))

-- P for K is not clean, nor all zeros, its six ignored bits set, in a list behind another entry
pub unclean-there : (Clean K P 0 (by Normal ((0x10 ∷ 0x01 ∷ 0x43 ∷ 0x00 ∷ 0x10 ∷ []) ++ k ++ p) ∷ []) → ⊥)
    × (Clean K P 0 (by Normal ((0x10 ∷ 0x01 ∷ 0x45 ∷ 0x00 ∷ 0x21 ∷ 0x02 ∷ []) ++ w ++ p ++ (0x3f ∷ 0x11 ∷ 0x22 ∷ 0x33 ∷ 0x44 ∷ 0x55 ∷ 0x66 ∷ 0x77 ∷ []) ++ times 8 0x00) ∷ []) → ⊥)
unfolding Clean SparesAll receive decode heading enclosed request_body decode_length decode_number number known bare
unclean-there = (λ c. (c.0.0 refl).0 refl, λ c. (c.0.1.0 refl).1 refl)

-- and what it says of them
pub secret-there : (results one clean ≡ results other clean) × Twins K3F (record_of P 0xaa) (record_of 0 0xbb) (final one clean) (final other clean)
secret-there =
    secret K3F (record_of P 0xaa) (record_of 0 0xbb) P 0 one other clean
    (log-sound first_kind 1 true true (makes p 0xaa) (record { area = omega arith; message = refl; list = refl }) (omega arith))
    protected-there twins-there clean-there
