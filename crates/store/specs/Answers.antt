-- What the answers of this crate's operations say: document 01's numbers and values, case by case.
use Rattle.std.specs.Prelude.{ℕ, ◌+◌, ◌≤◌, ◌≡◌, Bool, cond, List, length, ltb, Option, Some, None, Result, Ok, Err}
use Rattle.octets.specs.Number.{bare}
use Rattle.octets.specs.View.{within}
use Rattle.octets.specs.declared.Access.{Access}
use Rattle.octets.specs.declared.Port.{Port}
use Rattle.octets.specs.declared.Span.{Span}
use Rattle.admission.specs.Want.{Read}
use Rattle.admission.specs.declared.Head.{Head}
use Rattle.admission.specs.declared.Limits.{Limits}
use Rattle.admission.specs.Denial.{number, Verdict}
use Rattle.admission.specs.Denial as v
use Rattle.admission.specs.declared.Denial.{Denial}
use Rattle.rows.specs.Keyed.{Maybe, nowhere, here, look}
use Rattle.rows.specs.Row.{slot_tag}
use Rattle.rows.specs.declared.Slot.{Slot}
use Rattle.store.specs.Model.{Tag, State, new_unit, head_of, arranged, Shows}
use Rattle.store.specs.Steps.{Step, Content, content, denied, verdict, read_step}
use Rattle.store.specs.declared.Found.{Found}

-- ---- start

-- what a start says: the head of the new unit, or document 01's number
pub data Begun : Type 0 where
  made : Head → Begun
  refused : ℕ → Begun

-- what an answer of start says
abbrev pub begun : Option Head → Begun
begun (Some h) = made h
begun None = refused 301

-- "Start gives 301 for a version above 15 and makes no unit"
unfoldable pub started : Limits → ℕ → Bool → Bool → Begun
started l v a p = cond (ltb 15 v) (refused 301) (made (head_of (new_unit l v a p)))

-- ---- operations that change the unit

-- the answer is the step's, and head, table and memory stand for the step's unit
pub record Did (s : Step) (r : Verdict) (h : Head) (table pool : List ℕ) : Type 0 where
  pub answered : r ≡ s.answer
  pub left : Shows s.unit h table pool

-- the head behind an operation that gives a new one: of a denial it is as it was
abbrev pub head_after : Head → Result Head Denial → Head
head_after head (Ok h) = h
head_after head (Err d) = head

-- ---- find

-- what is fixed of the tag and its held length
abbrev pub found : Maybe Tag → Option Found
found nowhere = None
found (here t) = Some (record { about = t.about; held = length t.held })

-- ---- read

-- what a read's answer says of the memory
abbrev pub held_in : List ℕ → Result Span Denial → Content
held_in pool (Ok p) = content (within pool p)
held_in pool (Err d) = denied (number d)

-- it lies within the memory, and is no longer than an area may be
abbrev pub HeldPlace : List ℕ → Limits → Result Span Denial → Type 0
HeldPlace pool l (Ok p) = (p.start + p.len ≤ length pool) × (p.len ≤ l.area)
HeldPlace pool l (Err d) = Unit {0}

-- the place of data in the memory, or the number of a denial
pub data Held : Type 0 where
  Data : Span → Held
  Denied : ℕ → Held

-- a read's answer by the number
abbrev pub held_of : Result Span Denial → Held
held_of (Ok p) = Data p
held_of (Err d) = Denied (number d)

-- where the data in a slot lies, or the number of the denial. What may be read has a slot, so that the first line does not come up
abbrev pub held_at : Verdict → Maybe Slot → Held
held_at v.Allowed nowhere = Denied 6
held_at v.Allowed (here s) = Data (record { start = s.at; len = s.held })
held_at (v.Denied d) s = Denied d

-- the answer is the data's own place in the memory; it says what the read gives; it lies within the memory
pub record ReadOf (u : State) (x : ℕ) (p : Port) (a : Access) (pool : List ℕ) (r : Result Span Denial) : Type 0 where
  pub exact : held_of r ≡ held_at (verdict u x Read p a) (look slot_tag (bare x) (arranged u.tags))
  pub says : held_in pool r ≡ read_step u x p a
  pub place : HeldPlace pool u.limits r
