use native.Mathlib.Omega.{arith}
use Rattle.responder.proofs.Tells.{resources-given}
use Rattle.responder.proofs.Information.write.Goals as goal

pub returns : goal.returns
returns c = resources-given c.args.self.now _ _ _ (omega arith) (omega arith) (omega arith) (omega arith)
    c.write_resources.ensures
