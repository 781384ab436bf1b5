use mathlib.Core.Path.{refl}
use native.Mathlib.Omega.{arith}
use lib.Seq.{take_all}
use Rattle.octets.proofs.Areas.{laid-all, laid-not}
use Rattle.octets.proofs.Numbers.{sets-step}
use Rattle.octets.proofs.copy.Goals as goal

pub returns-then-out-at : goal.returns-then-out-at
returns-then-out-at c = laid-not c.args.out.now c.args.at c.args.src.now (omega arith)

pub returns-then-out-at-2 : goal.returns-then-out-at-2
returns-then-out-at-2 c = laid-not c.args.out.now c.args.at c.args.src.now (omega arith)

pub loop-i-preserved : goal.loop-i-preserved
loop-i-preserved c = rw c.loop-i.invariant (sets-step c.args.out.now c.args.src.now c.args.at c.loop-i.i (omega arith))

pub returns : goal.returns
returns c =
    laid-all c.args.out.now c.args.at c.args.src.now (omega arith)
    (rw (← take_all c.loop-i.i c.args.src.now (omega arith)) c.loop-i.invariant) refl
