use mathlib.Core.Path.{◌≡◌}
use Prim.Native.Nat.{◌+◌, ◌*◌, ◌-◌}
use Rattle.octets.specs.Number.{bare}
use Rattle.rows.specs.Row.{rows_in, scan}
use Rattle.rows.proofs.find_row.Given as goal

abbrev pub invariant-loop-k : goal.invariant-loop-k
invariant-loop-k l =
    scan l.table l.id (l.odd + l.k * 2) (rows_in l.table l.count - (l.odd + l.k * 2))
    ≡ scan l.table (bare l.tag) 0 (rows_in l.table l.count)
