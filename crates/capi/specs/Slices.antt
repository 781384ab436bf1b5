-- A unit's memory as its owner lends it, in three slices: five words for the head, a table of words, and the memory of octets. Of the first kind, whose limits need no
-- words. Document 01, 'Sizes': "A unit is always what a start gave and the operations of these papers then changed".
use Rattle.std.specs.Prelude.{ℕ, ◌≡◌, Bool, true, false, ◌&&◌, List, [], ◌∷◌, length, eqb}
use Rattle.admission.specs.declared.Head.{Head}
use Rattle.store.specs.Model.{State, first_kind, head_of, Shows}

-- the three slices
pub record Slices : Type 0 where
  pub head : List ℕ
  pub table : List ℕ
  pub memory : List ℕ

-- three slices, taken together
abbrev pub slices : List ℕ → List ℕ → List ℕ → Slices
slices head table memory = record { head = head; table = table; memory = memory }

-- 8 words for each of 32 tags, and 8,192 octets
abbrev pub lent : Slices → Bool
lent x = eqb (length x.head) 5 && eqb (length x.table) 256 && eqb (length x.memory) 8192

-- an option's word
abbrev pub flag : Bool → ℕ
flag true = 1
flag false = 0

-- version, allocation fitted, passwords fitted, tags registered, octets in use
abbrev pub head_words : Head → List ℕ
head_words h = h.version ∷ flag h.allocation ∷ flag h.passwords ∷ h.count ∷ h.used ∷ []

-- the slices stand for the unit u, to the last word and octet
pub record Holds (u : State) (x : Slices) : Type 0 where
  pub kind : u.limits ≡ first_kind
  pub words : x.head ≡ head_words (head_of u)
  pub shown : Shows u (head_of u) x.table x.memory

-- they stand for some unit
pub record Stands (x : Slices) : Type 0 where
  pub unit : State
  pub holds : Holds unit x

-- the slices are what these functions left: "this is all that an entry may take for granted of the unit handed to it". Of slices that have not a unit's lengths nothing
-- is asked
pub record Kept (head table memory : List ℕ) : Type 0 where
  pub stands : lent (slices head table memory) ≡ true → Stands (slices head table memory)
