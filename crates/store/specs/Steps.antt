-- What each operation answers, and what unit it leaves. Document 01, 'Tags' and 'Denials and their order'. No slice in sight; tags are compared with the six bits
-- ignored, and every operation on a tag asks the one admission, but for finding it, which tells what is registered.
use Rattle.std.specs.Prelude.{ℕ, ◌-◌, Bool, cond, List, [], ◌∷◌, ◌++◌, length}
use Rattle.octets.specs.Number.{bare}
use Rattle.octets.specs.declared.Access.{Access}
use Rattle.octets.specs.declared.Port.{Port}
use Rattle.octets.specs.declared.Port.TheVariants.{Secure}
use Rattle.admission.specs.Admission.{admission}
use Rattle.admission.specs.Want.{Known, Want, Allocate, Fit, Free, Read, Write}
use Rattle.admission.specs.Want as k
use Rattle.admission.specs.declared.Attributes.{Attributes}
use Rattle.admission.specs.declared.Head.{Head}
use Rattle.admission.specs.declared.Mode.{Mode}
use Rattle.admission.specs.Denial.{Verdict, Allowed, Denied}
use Rattle.rows.specs.Keyed.{Maybe, nowhere, here, look, change, without}
use Rattle.store.specs.Model.{Tag, State, tag_id, holding, head_of}
use Rattle.store.specs.declared.Remaining.{Remaining}

-- the tag x, if it is registered. "When a tag is compared the low six bits of its first octet are ignored"
unfoldable pub registered : State → ℕ → Maybe Tag
registered u x = look tag_id (bare x) u.tags

-- what admission sees of it: what is fixed, not its data
abbrev pub known_of : Maybe Tag → Known
known_of nowhere = k.Nothing
known_of (here t) = k.Tag t.about

-- what becomes of a want of the tag x
abbrev pub verdict : State → ℕ → Want → Port → Access → Verdict
verdict u x w p a = admission (head_of u) (known_of (registered u x)) w p a

-- an operation that changes the unit: its answer, and the unit it leaves
pub record Step : Type 0 where
  pub answer : Verdict
  pub unit : State

-- demand 1: "A refusal changes no tag"
abbrev pub acted : State → Verdict → List Tag → Step
acted u Allowed m = record { answer = Allowed; unit = holding u m }
acted u (Denied d) m = record { answer = Denied d; unit = u }

-- "A write replaces the contents: held length becomes the data's length, and the rest of the area is zero"
abbrev pub written : List ℕ → Tag → Tag
written xs t = record { about = t.about; held = xs }

-- a write: "Data of length 0 is allowed"
unfoldable pub write_step : State → ℕ → List ℕ → Port → Access → Step
write_step u x xs p a = acted u (verdict u x (Write (length xs)) p a) (change tag_id (bare x) (written xs) u.tags)

-- "Freed octets are zeroed and every other tag keeps its data"
unfoldable pub free_step : State → ℕ → Port → Access → Step
free_step u x p a = acted u (verdict u x Free p a) (without tag_id (bare x) u.tags)

-- what is asked for a new tag
abbrev pub asked : ℕ → ℕ → Mode → Bool → Access → Attributes
asked x size mode spf lock = record { tag = bare x; size = size; mode = mode; spf = spf; lock = lock }

-- one tag more, the last
abbrev pub more : State → Attributes → List ℕ → List Tag
more u new xs = u.tags ++ record { about = new; held = xs } ∷ []

-- "a held length (0 after allocation)". An allocation with a password gives the tag that password
unfoldable pub allocate_step : State → ℕ → ℕ → Mode → Bool → Port → Access → Step
allocate_step u x size mode spf p a =
    acted u (verdict u x (Allocate (asked x size mode spf a)) p a) (more u (asked x size mode spf a) [])

-- "Fitting a unit-managed tag is a call of the vehicle, with size, mode, whether SPF is required, a password or none, and first data". It comes by no port: none bars it
unfoldable pub fit_step : State → ℕ → ℕ → Mode → Bool → Access → List ℕ → Step
fit_step u x size mode spf lock xs =
    acted u (verdict u x (Fit (asked x size mode spf lock) (length xs)) Secure lock) (more u (asked x size mode spf lock) xs)

-- ---- operations that change nothing

-- a read: the data, or the number that denies it
pub data Content : Type 0 where
  content : List ℕ → Content
  denied : ℕ → Content

-- "A read gives the held length, not the area size"
abbrev pub held_by : Maybe Tag → List ℕ
held_by nowhere = []
held_by (here t) = t.held

-- what a read says, by its verdict
abbrev pub content_by : Verdict → List ℕ → Content
content_by Allowed xs = content xs
content_by (Denied d) xs = denied d

-- a read
unfoldable pub read_step : State → ℕ → Port → Access → Content
read_step u x p a = content_by (verdict u x Read p a) (held_by (registered u x))

-- "its remaining tags and octets are 32 and 8,192 less what is registered, or 0 and 0 if allocation is not fitted": by the head's numbers, which are the unit's
abbrev pub remainder : Head → Remaining
remainder h = record { tags = cond h.allocation (h.limits.tags - h.count) 0; octets = cond h.allocation (h.limits.memory - h.used) 0 }
