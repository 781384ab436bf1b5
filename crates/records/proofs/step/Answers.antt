-- `step`: no room, or a turn.
use native.Mathlib.Omega.{arith}
use Rattle.records.proofs.Steps.{steps-not, steps}
use Rattle.records.proofs.step.Goals as goal

pub returns : goal.returns
returns c = λ u v. steps u _ _ _ _ _ (omega arith) (c.take_turn.ensures u v)

pub returns-then-saturating_sub-lt-LINE : goal.returns-then-saturating_sub-lt-LINE
returns-then-saturating_sub-lt-LINE c = λ u v. steps-not u _ _ _ _ _ (omega arith) v
