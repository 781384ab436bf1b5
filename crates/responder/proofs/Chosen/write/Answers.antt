use native.Mathlib.Omega.{arith}
use Rattle.responder.proofs.Chooses.{chosen-given}
use Rattle.responder.proofs.Chosen.write.Goals as goal

pub returns : goal.returns
returns c = chosen-given c.args.self.now _ _ _ _ (omega arith) (omega arith) (omega arith) c.write_bulk_read.ensures
