use native.Mathlib.Omega.{arith}
use mathlib.Core.Bool.{true}
use Rattle.store.proofs.Sound.{start-sound}
use Rattle.gatelog.proofs.main.Goals as goal

-- the unit that is started is the first unit of a log
pub run-requires-clause-shows : goal.run-requires-clause-shows
run-requires-clause-shows c = start-sound _ 1 true true _ _ (rw c.in-Some.is at c.start.ensures) (omega arith) c.new.ensures
