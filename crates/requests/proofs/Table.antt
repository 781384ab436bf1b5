-- The table of operations at its boundaries, and document 01's number and values for each case of what a request is read as: tables, each proved by computation.
use Prim.Native.Nat.{ℕ}
use mathlib.Core.Path.{◌≡◌, refl}
use mathlib.Core.Bool.{Bool, true, false}
use mathlib.Core.List.{List, [], ◌∷◌, map}
use Rattle.octets.specs.Length.{decode_length}
use Rattle.octets.specs.Number.{number, decode_number}
use Rattle.octets.specs.declared.Access.{Access}
use Rattle.octets.specs.declared.Access.TheVariants as a
use Rattle.octets.specs.declared.Entries.{Entries}
use Rattle.octets.specs.declared.Form.TheVariants as f
use Rattle.octets.specs.declared.Span.{Span}
use Rattle.resources.specs.declared.Allocation.{Allocation}
use Rattle.requests.specs.Command.{known}
use Rattle.requests.specs.Request.{Body}
use Rattle.requests.specs.Request as b
use Rattle.requests.specs.View.{operation_kind, operation_body}
use Rattle.requests.specs.declared.Operation.{Operation}
use Rattle.requests.specs.declared.Operation.TheVariants as o

-- ---- "Operation types 7 to 64 and 71 to 255 are answered with 12."

abbrev types : List (ℕ × Bool)
types = (0, true) ∷ (6, true) ∷ (7, false) ∷ (64, false) ∷ (65, true) ∷ (70, true) ∷ (71, false) ∷ (128, false) ∷ (255, false) ∷ (256, false) ∷ []

pub types-hold : map (λ (x : ℕ × Bool). known x.0) types ≡ map (λ (x : ℕ × Bool). x.1) types
unfolding known
types-hold = refl

-- ---- the number of each case: the table's two columns

-- a list and a part of the octets below, an allocation by either right
abbrev list : Entries
list = record { start = 0; count = 1 }

abbrev part : Span
part = record { start = 17; len = 1 }

abbrev asked : Access → Allocation
asked access = record { tag = 5; mode = 6; size = 7; access = access; initial = part }

abbrev kinds : List (Operation × ℕ)
kinds =
    (o.Resources list, 0)
    ∷ (o.Allocate (asked a.Plain), 1)
    ∷ (o.Allocate (asked (a.Password 0)), 65)
    ∷ (o.Free a.Plain 5, 2)
    ∷ (o.Free (a.Password 0) 5, 66)
    ∷ (o.Read a.Plain 5, 3)
    ∷ (o.Read (a.Password 0) 5, 67)
    ∷ (o.Write a.Plain 5 part, 4)
    ∷ (o.Write (a.Password 0) 5 part, 68)
    ∷ (o.BulkRead f.Plain list, 5)
    ∷ (o.BulkRead f.Password list, 69)
    ∷ (o.BulkWrite f.Plain list, 6)
    ∷ (o.BulkWrite f.Password list, 70)
    ∷ []

pub kinds-hold : map (λ (x : Operation × ℕ). operation_kind x.0) kinds ≡ map (λ (x : Operation × ℕ). x.1) kinds
kinds-hold = refl

-- ---- its values, where the octets are tag 9, password 3 and one octet of data

abbrev s : List ℕ
s = 0 ∷ 0 ∷ 0 ∷ 0 ∷ 0 ∷ 0 ∷ 0 ∷ 9 ∷ 0 ∷ 0 ∷ 0 ∷ 0 ∷ 0 ∷ 0 ∷ 0 ∷ 3 ∷ 1 ∷ 0xAA ∷ []

abbrev bodies : List (Operation × Body)
bodies =
    (o.Resources list, b.resource_information ((9, a.Plain) ∷ []))
    ∷ (o.Allocate (asked (a.Password 8)), b.allocate (record { tag = 5; mode = 6; size = 7; access = a.Password 8; initial = 0xAA ∷ [] }))
    ∷ (o.Free (a.Password 8) 5, b.free (5, a.Password 8))
    ∷ (o.Read a.Plain 5, b.read (5, a.Plain))
    ∷ (o.Write (a.Password 8) 5 part, b.write ((5, a.Password 8), 0xAA ∷ []))
    ∷ (o.BulkRead f.Password list, b.bulk_read ((9, a.Password 3) ∷ []))
    ∷ (o.BulkWrite f.Password list, b.bulk_write (((9, a.Password 3), 0xAA ∷ []) ∷ []))
    ∷ []

pub bodies-hold : map (λ (x : Operation × Body). operation_body s x.0) bodies ≡ map (λ (x : Operation × Body). x.1) bodies
unfolding decode_length decode_number number
bodies-hold = refl
