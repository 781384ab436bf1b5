use mathlib.Core.Path.{◌∙◌}
use Prim.Native.Nat.{ℕ, ◌+◌, ◌-◌}
use native.Mathlib.Omega.{arith}
use lib.ListN.{length-replicate}
use Rattle.rows.proofs.Moves.{start, zero-step, done}
use Rattle.store.proofs.clear.Goals as goal

pub loop-i-init : goal.loop-i-init
loop-i-init c = (omega arith, start _ _ _ _ (omega arith))

pub loop-i-preserved : goal.loop-i-preserved
loop-i-preserved c =
    let from = c.args.from in
    let i = c.loop-i.i in
    let e = zero-step c.args.pool.now from (c.args.to - from) i (i - from) (i + 1 - from) (omega arith) (omega arith) (omega arith) in
    (omega arith, rw c.loop-i.invariant.1 e)

pub returns : goal.returns
returns c =
    let n = length-replicate {A = ℕ} (c.args.to - c.args.from) 0 in
    c.loop-i.invariant.1 ∙ done _ _ _ _ (omega (arith, n))
