use mathlib.Core.Path.{◌≡◌}
use Rattle.rows.specs.Row.{sunk}
use Rattle.rows.proofs.lower_places.Given as goal

abbrev pub invariant-loop-i : goal.invariant-loop-i
invariant-loop-i l = l.table ≡ sunk l.at l.n l.initial.table l.i
