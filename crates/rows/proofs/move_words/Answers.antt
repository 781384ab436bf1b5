use mathlib.Core.Path.{refl, ◌∙◌}
use Prim.Native.Nat.{◌+◌, ◌-◌, ◌<◌}
use native.Mathlib.Omega.{arith}
use lib.ListN.{length, drop, length-drop}
use Rattle.rows.proofs.Moves.{start, step, stopped, pull}
use Rattle.rows.proofs.move_words.Goals as goal

pub loop-i-init : goal.loop-i-init
loop-i-init c = start _ _ _ _ (omega arith)

pub loop-i-preserved : goal.loop-i-preserved
loop-i-preserved c =
    let v = pull c.args.table.now c.args.from 8 _ c.loop-i.i _ _ (omega arith) refl refl refl in
    let rest = length-drop (c.args.from + 8) c.args.table.now in
    rw c.loop-i.invariant (step _ _ _ _ _ _ _ (omega arith) (omega arith) v (omega (arith, rest)))

pub returns : goal.returns
returns c = c.loop-i.invariant ∙ stopped _ _ _ _ (c.args.to - c.args.from) (omega arith)
