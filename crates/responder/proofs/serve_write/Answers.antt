use Rattle.tags.specs.Entry.{form_of}
use Rattle.answers.specs.Answer as b
use Rattle.store.proofs.Ways.{handed}
use Rattle.responder.specs.Respond.{write_done, named}
use Rattle.responder.proofs.Sends.{step-denied, step-done, sound-version}
use Rattle.responder.proofs.Writable.{write-writable}
use Rattle.responder.proofs.serve_write.Goals as goal

pub returns-in_err-write : goal.returns-in_err-write
unfolding write_done
returns-in_err-write c = λ u s. rw (handed _ _ c.from_residual.ensures)
    (step-denied u _ _ _ s (form_of c.args.access) (b.write (named c.args.tag)) _ _ _ _ _ (c.in_err-write.ensures u s))

pub returns : goal.returns
unfolding write_done
returns c = λ u s. step-done u _ _ _ s _ b.write c.args.tag _ _ _ _ _ _ _ _ _ _ (c.in_ok-write.ensures u s)
    (write-writable _ _ _ (sound-version _ _ _ c.requires.sound) c.ranges.tag.fits) c.requires.room
    c.form_of-form.ensures.0 c.bare_tag-bare.ensures c.write_write-written.ensures c.told.ensures
