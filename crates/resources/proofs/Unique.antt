-- The contract of each public reader leaves one answer: two answers that it allows are equal.
use Prim.Native.Nat.{ℕ}
use mathlib.Core.Path.{◌≡◌, sym, ap, ◌∙◌}
use mathlib.Core.List.{List}
use lib.ListN.{length, drop}
use Rattle.octets.specs.Reading.{Octets}
use Rattle.octets.specs.View.{Reading, entries_in, ListPlace}
use Rattle.octets.specs.declared.Form.{Form}
use Rattle.octets.specs.declared.Taken.{Taken}
use Rattle.octets.specs.declared.Entries.{Entries}
use Rattle.octets.proofs.Places.{drop-same}
use Rattle.octets.proofs.Spans.{span_same, list-spans}
use Rattle.octets.proofs.Unique.{reads-unique}
use Rattle.resources.specs.Resource.{Grant, resource}
use Rattle.resources.specs.View.{ModeAt, grant_in, AllocationAt, RoomAt, ResourceAt, told_in, ResourcesAt}
use Rattle.resources.specs.declared.Allocation.{Allocation}
use Rattle.resources.specs.declared.Room.{Room}
use Rattle.resources.specs.declared.Resource.{Resource}
use Rattle.resources.specs.declared.Resources.{Resources}
use Rattle.resources.proofs.Bodies.{resource-lawful}

module _ (s : List ℕ) (at : ℕ) where
  pub mode-unique : (x y : Reading ℕ) → ModeAt s at x → ModeAt s at y → x ≡ y
  mode-unique x y p q = reads-unique (λ a h. h.0) (λ a b h k w e. e) p q

  pub room-unique : (x y : Reading Room) → RoomAt s at x → RoomAt s at y → x ≡ y
  room-unique x y p q = reads-unique (λ a h. h) (λ a b h k w e. e) p q

  pub resource-unique : (x y : Reading Resource) → ResourceAt s at x → ResourceAt s at y → x ≡ y
  resource-unique x y p q = reads-unique (λ a h. h) (λ a b h k w e. e) p q

-- an allocation is told from others by what it shows and by the span of its initial value
grant-same : (s : List ℕ) (x y : Allocation) → grant_in s x ≡ grant_in s y → x.initial ≡ y.initial → x ≡ y
grant-same s x y e f = λ i. record { tag = (e i).tag; mode = (e i).mode; size = (e i).size; access = (e i).access; initial = f i }

pub allocation-unique : (s : List ℕ) (at : ℕ) (w : Form) (x y : Reading Allocation) → AllocationAt s at w x → AllocationAt s at w y → x ≡ y
allocation-unique s at w x y p q = reads-unique (λ a h. h.1)
    (λ a b h k n e. grant-same s a.value b.value e (span_same s a.value.initial b.value.initial h.0 (k.0 ∙ sym n) h.1 (ap (λ (g : Grant). g.initial) e))) p q

-- the list in what was read, and where it ends
abbrev list_of : Taken Resources → Taken Entries
list_of t = record { value = t.value.list; next = t.next }

-- so is a list, by its entries and by where they end
pub resources-unique : (s : List ℕ) (at : ℕ) (x y : Reading Resources) → Octets s → ResourcesAt s at x → ResourcesAt s at y → x ≡ y
resources-unique s at x y o p q = reads-unique (λ a h. h.1) same p q
  where
    same : (a b : Taken Resources) → ListPlace resource s (list_of a) → ListPlace resource s (list_of b) → a.next ≡ b.next → told_in s a.value ≡ told_in s b.value → a.value ≡ b.value
    same a b h k n e =
        let es : entries_in resource s a.value.list ≡ entries_in resource s b.value.list = ap (λ (z : Room × List Resource). z.1) e in
        let u = list-spans s resource resource-lawful o a.value.list (drop a.next s) h.2 in
        let v = list-spans s resource resource-lawful o b.value.list (drop b.next s) k.2 in
        let f : a.value.list.start ≡ b.value.list.start = drop-same s a.value.list.start b.value.list.start h.0 k.0 (u.0 ∙ rw (es, n) (sym v.0)) in
        let c : a.value.list.count ≡ b.value.list.count = sym u.1 ∙ ap length es ∙ v.1 in
        λ i. record { room = (e i).0; list = record { start = f i; count = c i } }
