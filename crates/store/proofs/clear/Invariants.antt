use mathlib.Core.Path.{◌≡◌}
use Prim.Native.Nat.{◌-◌, ◌≤◌}
use lib.ListN.{replicate}
use Rattle.rows.proofs.Moves.{part}
use Rattle.store.proofs.clear.Given as goal

abbrev pub invariant-loop-i : goal.invariant-loop-i
invariant-loop-i l =
    (l.i - l.from ≤ l.to - l.from)
    × (l.pool ≡ part l.initial.pool l.from (replicate (l.to - l.from) 0) (l.i - l.from))
