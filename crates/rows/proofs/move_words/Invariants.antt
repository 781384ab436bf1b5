use mathlib.Core.Path.{◌≡◌}
use Prim.Native.Nat.{◌+◌, ◌-◌}
use lib.ListN.{drop}
use Rattle.rows.proofs.Moves.{part}
use Rattle.rows.proofs.move_words.Given as goal

abbrev pub invariant-loop-i : goal.invariant-loop-i
invariant-loop-i l = l.table ≡ part l.initial.table l.from (drop (l.from + 8) l.initial.table) (l.i - l.from)
