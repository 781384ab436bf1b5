use mathlib.Core.Path.{refl}
use Rattle.responder.proofs.Performs.{denied, silent-so, replied-so}
use Rattle.responder.proofs.respond.Goals as goal

pub returns-then-answer-head : goal.returns-then-answer-head
returns-then-answer-head c = λ u s. silent-so u _ _ _ s c.args.port c.args.request.now _ _ _ _ _ c.if-answer-head.true
    refl refl s

pub returns-in-Ok : goal.returns-in-Ok
returns-in-Ok c = λ u s. replied-so u _ _ _ s c.args.port c.args.request.now _ _ _ _ _ c.if-answer-head.false
    (c.in-Ok.ensures u s)

pub returns-in-Err : goal.returns-in-Err
returns-in-Err c = λ u s. replied-so u _ _ _ s c.args.port c.args.request.now _ _ _ _ _ c.if-answer-head.false
    (denied _ _ _ _ _ _ _ _ _ (c.in-Err.ensures u s) c.deny.ensures)
