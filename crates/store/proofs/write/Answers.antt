use Rattle.admission.proofs.Admitted
use Rattle.store.proofs.Ways
use Rattle.store.proofs.write.Goals as goal

pub put-requires : goal.put-requires
put-requires c =
    Ways.write-room c.requires.unit _ _ _ c.requires.shown _ _ _ _ (Ways.there _ _ c.in_ok-i.ensures)
    c.get_slot-slot.result c.get_slot-slot.ensures _ (c.in_ok-admit_write.ensures _)

pub returns-in_err-i : goal.returns-in_err-i
returns-in_err-i c = λ u s.
    rw (Ways.handed _ _ c.from_residual.ensures)
    (Ways.write-denied u _ _ _ s _ _ _ _ _
    (Ways.by-none _ _ _ _ _ _ _ c.in_err-i.ensures (Admitted.stranger-write _ _ _ _)))

pub returns-in_err-admit_write : goal.returns-in_err-admit_write
returns-in_err-admit_write c = λ u s.
    rw (Ways.handed _ _ c.from_residual-in_err-admit_write.ensures)
    (Ways.write-denied u _ _ _ s _ _ _ _ _
    (Ways.by_row _ _ _ _ _ _ _ c.get_slot-slot.result _ (Ways.there _ _ c.in_ok-i.ensures) c.get_slot-slot.ensures
    (c.in_err-admit_write.ensures _)))

pub returns : goal.returns
returns c = λ u s.
    Ways.write-done u _ _ _ s _ _ _ _ (Ways.there _ _ c.in_ok-i.ensures) c.get_slot-slot.result c.get_slot-slot.ensures
    _ _ _ (c.in_ok-admit_write.ensures _) c.put.ensures.0 c.put.ensures.1
