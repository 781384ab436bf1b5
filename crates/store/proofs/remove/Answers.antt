use mathlib.Core.Path.{ap, ◌∙◌}
use native.Mathlib.Omega.{arith}
use Rattle.rows.specs.Image.{closed}
use Rattle.rows.specs.Row.{slot_tag}
use Rattle.rows.specs.declared.Slot.{Slot}
use Rattle.store.proofs.States
use Rattle.store.proofs.remove.Goals as goal

pub close-requires : goal.close-requires
close-requires c = States.area-there _ _ _ _ c.requires.sound.shown _ _ c.requires.row_there.0 c.requires.row_there.1

pub overflow_sub-result-2 : goal.overflow_sub-result-2
overflow_sub-result-2 c =
    omega (arith, (States.area-there _ _ _ _ c.requires.sound.shown _ _ c.requires.row_there.0 c.requires.row_there.1).0)

pub returns : goal.returns
returns c = λ u s.
    rw (ap slot_tag c.requires.row_there.1) (States.remove-shows u _ _ _ s c.args.row _ _ _ c.requires.row_there.0 (ap (λ (q : Slot). States.head_without c.args.head q.about.size) c.requires.row_there.1)
    c.remove_row.ensures (c.close.ensures ∙ ap (λ (q : Slot). closed c.args.pool.now q.at q.about.size c.args.head.used) c.requires.row_there.1))
