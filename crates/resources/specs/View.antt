-- What the answers of this crate's readers say of the octets s, and where their positions lie. Together they leave one answer (proofs/Unique).
use Rattle.std.specs.Prelude.{ℕ, ◌+◌, ◌<◌, ◌≤◌, ◌≡◌, List, length, drop}
use Rattle.octets.specs.View.{Reading, Reads, within, entries_in, ListPlace}
use Rattle.octets.specs.declared.Form.{Form}
use Rattle.resources.specs.Resource.{mode, Grant, allocation, room, resource, resources}
use Rattle.resources.specs.declared.Room.{Room}
use Rattle.resources.specs.declared.Resource.{Resource}
use Rattle.resources.specs.declared.Resources.{Resources}
use Rattle.resources.specs.declared.Allocation.{Allocation}

-- what reading a mode code at a place answers: the next place lies within s, and the code is one octet
abbrev pub ModeAt : List ℕ → ℕ → Reading ℕ → Type 0
ModeAt s at = Reads (mode.get (drop at s)) (λ x. x) (λ t. (t.next ≤ length s) × (t.value < 256)) s

-- the allocation that the code's answer is, its initial value where it stands in s
abbrev pub grant_in : List ℕ → Allocation → Grant
grant_in s x = record { tag = x.tag; mode = x.mode; size = x.size; access = x.access; initial = within s x.initial }

-- what reading an allocation at a place answers: the next place is the initial value's end, and lies within s
abbrev pub AllocationAt : List ℕ → ℕ → Form → Reading Allocation → Type 0
AllocationAt s at w =
    Reads ((allocation w).get (drop at s)) (grant_in s) (λ t. (t.value.initial.start + t.value.initial.len ≡ t.next) × (t.next ≤ length s)) s

-- what reading at a place what a unit has left answers: the next place lies within s
abbrev pub RoomAt : List ℕ → ℕ → Reading Room → Type 0
RoomAt s at = Reads (room.get (drop at s)) (λ x. x) (λ t. t.next ≤ length s) s

-- what reading at a place what is told of one tag answers: the next place lies within s
abbrev pub ResourceAt : List ℕ → ℕ → Reading Resource → Type 0
ResourceAt s at = Reads (resource.get (drop at s)) (λ x. x) (λ t. t.next ≤ length s) s

-- what a unit has left, and the entries of the list where they stand in s
abbrev pub told_in : List ℕ → Resources → Room × List Resource
told_in s x = (x.room, entries_in resource s x.list)

-- what reading resource information at a place answers: list and next place lie within s, and the entries end there
abbrev pub ResourcesAt : List ℕ → ℕ → Reading Resources → Type 0
ResourcesAt s at = Reads (resources.get (drop at s)) (told_in s) (λ t. ListPlace resource s (record { value = t.value.list; next = t.next })) s
