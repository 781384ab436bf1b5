-- The reading loop of the gate log program, turn by turn: it holds the octets that are not yet used, takes the next piece of the input when they do not suffice, and
-- knows that nothing comes behind them when there is no further piece.
use Rattle.std.specs.Prelude.{ℕ, zero, suc, Bool, true, false, List, [], ◌∷◌, ◌++◌, drop}
use Rattle.store.specs.Model.{State}
use Rattle.records.specs.Output.{first_unit}
use Rattle.records.specs.Turn.{Turned, more, answered, ended, turn}

-- how the loop goes on after a turn: with the unit, the number answered, whether nothing comes behind, what is held, and the pieces to come
abbrev pub goes_on : (State → ℕ → Bool → List ℕ → List (List ℕ) → List ℕ) → State → ℕ → Bool → List ℕ → List (List ℕ) → Turned → List ℕ
goes_on onward u n last held xs (ended lines) = lines
goes_on onward u n last held xs (answered v used line) = line ++ onward v (suc n) last (drop used held) xs
goes_on onward u n last held [] more = onward u n true held []
goes_on onward u n last held (x ∷ xs) more = onward u n last (held ++ x) xs

-- so many turns of the loop; a loop that is out of turns prints nothing more
unfoldable pub driven_from : ℕ → State → ℕ → Bool → List ℕ → List (List ℕ) → List ℕ
driven_from zero u n last held xs = []
driven_from (suc k) u n last held xs = goes_on (driven_from k) u n last held xs (turn u n last held)

-- from the start, when nothing is held
unfoldable pub driven : ℕ → List (List ℕ) → List ℕ
driven turns xs = driven_from turns first_unit 0 false [] xs
