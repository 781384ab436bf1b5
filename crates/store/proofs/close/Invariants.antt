use mathlib.Core.Path.{◌≡◌}
use Prim.Native.Nat.{◌+◌, ◌-◌}
use lib.ListN.{drop}
use Rattle.rows.proofs.Moves.{part}
use Rattle.store.proofs.close.Given as goal

abbrev pub invariant-loop-i : goal.invariant-loop-i
invariant-loop-i l = l.pool ≡ part l.initial.pool l.at (drop (l.at + l.n) l.initial.pool) (l.i - l.at)
