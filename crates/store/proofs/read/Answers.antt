use Rattle.admission.proofs.Admitted
use Rattle.store.proofs.Ways
use Rattle.store.proofs.read.Goals as goal

pub returns-in_err-row : goal.returns-in_err-row
returns-in_err-row c = λ u pool s.
    rw (Ways.handed _ _ c.from_residual.ensures)
    (Ways.read-denied u _ _ pool s _ _ _ _
    (Ways.by-none _ _ _ _ _ _ _ c.in_err-row.ensures (Admitted.stranger-read _ _ _)))

pub returns-in_err-admit_read : goal.returns-in_err-admit_read
returns-in_err-admit_read c = λ u pool s.
    rw (Ways.handed _ _ c.from_residual-in_err-admit_read.ensures)
    (Ways.read-denied u _ _ pool s _ _ _ _
    (Ways.by_row _ _ _ _ _ _ _ c.get_slot-slot.result _ (Ways.there _ _ c.in_ok-row.ensures) c.get_slot-slot.ensures
    (c.in_err-admit_read.ensures _)))

pub returns : goal.returns
returns c = λ u pool s.
    Ways.read-done u _ _ pool s _ _ _ _ (Ways.there _ _ c.in_ok-row.ensures) c.get_slot-slot.result c.get_slot-slot.ensures
    (c.in_ok-admit_read.ensures _)
