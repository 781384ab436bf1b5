use mathlib.Core.Path.{sym}
use Rattle.admission.proofs.Admitted
use Rattle.store.specs.Raw.{row_of, known_at}
use Rattle.store.proofs.Ways
use Rattle.store.proofs.allocate.Goals as goal

pub register-requires : goal.register-requires
register-requires c =
    let k = known_at c.args.table.now (row_of c.args.head c.args.table.now c.args.tag) in
    let e = c.in_ok-admit_allocate.ensures k c.args.port c.args.access c.is_registered.ensures in
    let g = (Admitted.allowed-allocate _ _ _ k _ (sym e)).space in
    (g.few, g.room)

pub returns-in_err-admit_allocate : goal.returns-in_err-admit_allocate
returns-in_err-admit_allocate c = λ u pool s.
    rw (Ways.handed _ _ c.from_residual.ensures)
    (Ways.allocate-denied u _ _ pool s _ _ _ _ _ _ c.asked-new.ensures _ _
    (c.in_err-admit_allocate.ensures _ _ _ c.is_registered.ensures))

pub returns : goal.returns
returns c = λ u pool s.
    Ways.allocate-done u _ _ pool s _ _ _ _ _ _ c.asked-new.ensures _ _ _
    (c.in_ok-admit_allocate.ensures _ _ _ c.is_registered.ensures) c.register.ensures.0 c.register.ensures.1
