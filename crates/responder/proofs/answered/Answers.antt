use Rattle.admission.specs.declared.Denial.TheVariants as d
use Rattle.store.proofs.Ways.{handed}
use Rattle.responder.proofs.Performs.{denies, lined, undecoded, decoded}
use Rattle.responder.proofs.answered.Goals as goal

pub returns-in_err-first_lines : goal.returns-in_err-first_lines
returns-in_err-first_lines c = λ u s. rw (
  handed _ _ c.from_residual.ensures,
  lined u c.args.port c.args.request.now _ (c.in_err-first_lines.ensures u s.head),
) (denies u _ _ _ _ _ s)

pub returns-in_default : goal.returns-in_default
returns-in_default c = λ u s. rw (undecoded u c.args.port c.args.request.now _ (c.in_ok-first_lines.ensures u s.head)
    c.in_default.ensures) (denies u _ _ _ _ d.Octets s)

pub returns : goal.returns
returns c = λ u s. rw (decoded u c.args.port c.args.request.now c.in-Ok.asked (c.in_ok-first_lines.ensures u s.head)
    c.in-Ok.ensures) (c.perform.ensures u c.in-Ok.asked.version s)
