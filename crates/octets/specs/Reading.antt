-- What reading the front of a list of octets gives: a value and the octets behind it, or a fault and its kind.
-- Document 01, 'Denials and their order': whatever does not decode is 16.
use Rattle.std.specs.Prelude.{ℕ, ◌<◌, List, [], ◌∷◌, get_or}
use Rattle.octets.specs.declared.Fault.{Fault}
use Rattle.octets.specs.declared.Fault.TheVariants.{Missing, Longer, High, Other}

-- every element is an octet
abbrev pub Octets : List ℕ → Type 0
Octets l = (k : ℕ) → get_or l k 0 < 256

-- what reading the front of a list of octets gives: a fault, or a value and the octets behind it
pub data Read (A : Type 0) : Type 0 where
  bad : Fault → Read A
  ok : A → List ℕ → Read A

-- the number of a fault, whatever its kind: "It gives 16 for reading"
abbrev pub fault_number : Fault → ℕ
fault_number Missing = 16
fault_number Longer = 16
fault_number High = 16
fault_number Other = 16

-- what is told of a whole message: its values, or document 01's number for what does not decode, and the kind of its fault
pub data Told (A : Type 0) : Type 0 where
  message : A → Told A
  refused : ℕ → Fault → Told A

module _ {A : Type 0} where
  -- a reading as it is told: "It gives 16 for reading exactly if the octets are over 2,048 or are neither a denial" nor a message "in the layouts above"
  abbrev pub told : Read A → Told A
  told (ok a r) = message a
  told (bad f) = refused 16 f

  -- "the body does not decode to its last octet" is a fault
  abbrev pub at_end : Read A → Read A
  at_end (bad f) = bad f
  at_end (ok a []) = ok a []
  at_end (ok a (x ∷ r)) = bad Other

  -- where a reading ends, without its value
  abbrev pub forget : Read A → Read (Unit {0})
  forget (bad f) = bad f
  forget (ok a r) = ok tt r

module _ {A B : Type 0} where
  -- read on behind what was read
  abbrev pub and_then : Read A → (A → List ℕ → Read B) → Read B
  and_then (bad f) g = bad f
  and_then (ok a l) g = g a l
