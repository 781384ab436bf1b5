use native.Mathlib.Omega.{arith}
use Rattle.responder.proofs.Grown.{names-more}
use Rattle.responder.proofs.Names.note.Goals as goal

pub returns-clause-noted : goal.returns-clause-noted
returns-clause-noted c = rw (c.in-Ok.is, c.bare_tag.ensures) (names-more c.args.self.now _ (omega arith))
