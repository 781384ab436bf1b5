use native.Mathlib.Omega.{arith}
use Rattle.tags.specs.Entry.{form_of}
use Rattle.answers.specs.Answer as b
use Rattle.store.proofs.Ways.{handed}
use Rattle.responder.specs.Respond.{allocate_done, named}
use Rattle.responder.proofs.Sends.{step-denied, step-done}
use Rattle.responder.proofs.Writable.{allocate-writable}
use Rattle.responder.proofs.serve_allocate.Goals as goal

pub returns-in_err-after : goal.returns-in_err-after
unfolding allocate_done
returns-in_err-after c = λ u pool s h.
    let d = rw (c.code_mode.ensures, c.code_spf.ensures, c.from-code.ensures) at (c.in_err-after.ensures u pool h) in
    rw (handed _ _ c.from_residual.ensures) (step-denied u _ _ pool h (form_of c.args.allocation.access)
    (b.allocate (named c.args.allocation.tag)) _ _ _ _ _ d)

pub returns : goal.returns
unfolding allocate_done
returns c = λ u pool s h.
    let d = rw (c.code_mode.ensures, c.code_spf.ensures, c.from-code.ensures) at (c.in_ok-after.ensures u pool h) in
    step-done u _ _ pool h _ b.allocate c.args.allocation.tag _ _ _ _ _ _ _ _ _ _ d
    (allocate-writable _ _ _ c.requires.0 (omega arith)) c.requires.1 c.form_of-form.ensures.0
    c.bare_tag-tag.ensures c.write_allocate-written.ensures c.told.ensures
