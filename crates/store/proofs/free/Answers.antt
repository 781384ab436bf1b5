use Rattle.admission.proofs.Admitted
use Rattle.store.proofs.Ways
use Rattle.store.proofs.States
use Rattle.store.proofs.free.Goals as goal

pub remove-requires-clause-row_there : goal.remove-requires-clause-row_there
remove-requires-clause-row_there c =
    let row = States.row-found c.requires.unit _ _ _ c.requires.shown _ _ (Ways.there _ _ c.in_ok-i.ensures) in
    (row.0, c.get_slot-slot.ensures)

pub returns-in_err-i : goal.returns-in_err-i
returns-in_err-i c = λ u s.
    rw (Ways.handed _ _ c.from_residual.ensures)
    (Ways.free-denied u _ _ _ s _ _ _ _
    (Ways.by-none _ _ _ _ _ _ _ c.in_err-i.ensures (Admitted.stranger-free _ _ _)))

pub returns-in_err-admit_free : goal.returns-in_err-admit_free
returns-in_err-admit_free c = λ u s.
    rw (Ways.handed _ _ c.from_residual-in_err-admit_free.ensures)
    (Ways.free-denied u _ _ _ s _ _ _ _
    (Ways.by_row _ _ _ _ _ _ _ c.get_slot-slot.result _ (Ways.there _ _ c.in_ok-i.ensures) c.get_slot-slot.ensures
    (c.in_err-admit_free.ensures _)))

pub returns : goal.returns
returns c = λ u s.
    Ways.free-done u _ _ _ s _ _ _ _ (Ways.there _ _ c.in_ok-i.ensures) c.get_slot-slot.result c.get_slot-slot.ensures
    _ _ _ (c.in_ok-admit_free.ensures _) (c.remove.ensures u s)
