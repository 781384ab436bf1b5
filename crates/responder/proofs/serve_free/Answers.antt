use Rattle.tags.specs.Entry.{form_of}
use Rattle.answers.specs.Answer as b
use Rattle.store.proofs.Ways.{handed}
use Rattle.responder.specs.Respond.{free_done, named}
use Rattle.responder.proofs.Sends.{step-denied, step-done, sound-version}
use Rattle.responder.proofs.Writable.{free-writable}
use Rattle.responder.proofs.serve_free.Goals as goal

pub returns-in_err-after : goal.returns-in_err-after
unfolding free_done
returns-in_err-after c = λ u s. rw (handed _ _ c.from_residual.ensures)
    (step-denied u _ _ _ s (form_of c.args.access) (b.free (named c.args.tag)) _ _ _ _ _ (c.in_err-after.ensures u s))

pub returns : goal.returns
unfolding free_done
returns c = λ u s. step-done u _ _ _ s _ b.free c.args.tag _ _ _ _ _ _ _ _ _ _ (c.in_ok-after.ensures u s)
    (free-writable _ _ _ (sound-version _ _ _ c.requires.sound) c.ranges.tag.fits) c.requires.room
    c.form_of-form.ensures.0 c.bare_tag-bare.ensures c.write_free-written.ensures c.told.ensures
