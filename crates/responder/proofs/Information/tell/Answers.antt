use native.Mathlib.Omega.{arith}
use Rattle.responder.proofs.Grown.{resources-more}
use Rattle.responder.proofs.Information.tell.Goals as goal

pub returns-clause-told : goal.returns-clause-told
returns-clause-told c = rw (c.in-Some.is, c.resource_as-resource.ensures)
    (resources-more c.args.self.now _ (omega arith) (omega arith) (omega arith) (omega arith))
