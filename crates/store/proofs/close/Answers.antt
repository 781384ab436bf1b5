use mathlib.Core.Path.{◌≡◌, refl, ap, ◌∙◌}
use Prim.Native.Nat.{ℕ, ◌+◌, ◌-◌}
use native.Mathlib.Omega.{arith}
use lib.ListN.{replicate, length-drop}
use lib.Seq.{sets}
use Rattle.rows.proofs.Moves.{start, step, pull, close-all}
use Rattle.store.proofs.close.Goals as goal

pub loop-i-init : goal.loop-i-init
loop-i-init c = start _ _ _ _ (omega arith)

pub loop-i-preserved : goal.loop-i-preserved
loop-i-preserved c =
    let v = pull c.args.pool.now c.args.at c.args.n _ c.loop-i.i _ _ (omega arith) refl refl refl in
    let rest = length-drop (c.args.at + c.args.n) c.args.pool.now in
    rw c.loop-i.invariant (step _ _ _ _ _ _ _ (omega arith) (omega arith) v (omega (arith, rest)))

pub returns : goal.returns
returns c =
    let last = c.args.end - c.args.n in
    let e : c.args.end - last ≡ c.args.n = omega arith in
    c.clear.ensures ∙ ap (λ (k : ℕ). sets c.loop-i.pool last (replicate k 0)) e
    ∙ close-all c.args.pool.now c.loop-i.pool c.args.at c.args.n _ (c.loop-i.i - c.args.at) last c.args.end c.loop-i.invariant
    refl (omega arith) (omega arith) (omega arith)
