use mathlib.Core.Path.{sym}
use Rattle.octets.specs.declared.Port.TheVariants.{Secure}
use Rattle.admission.proofs.Admitted
use Rattle.store.specs.Raw.{row_of, known_at}
use Rattle.store.proofs.Ways
use Rattle.store.proofs.fit.Goals as goal

pub register-requires : goal.register-requires
register-requires c =
    let k = known_at c.args.table.now (row_of c.args.head c.args.table.now c.args.tag) in
    let e = c.in_ok-admit_fit.ensures k Secure c.args.lock c.is_registered.ensures in
    let g = (Admitted.allowed-fit _ _ _ k _ _ (sym e)).space in
    (g.few, g.room)

pub returns-in_err-admit_fit : goal.returns-in_err-admit_fit
returns-in_err-admit_fit c = λ u s.
    rw (Ways.handed _ _ c.from_residual.ensures)
    (Ways.fit-denied u _ _ _ s _ _ _ _ _ _ c.asked-new.ensures _ _
    (c.in_err-admit_fit.ensures _ _ _ c.is_registered.ensures))

pub returns : goal.returns
returns c = λ u s.
    Ways.fit-done u _ _ _ s _ _ _ _ _ _ c.asked-new.ensures _ _ _ _ _
    (c.in_ok-admit_fit.ensures _ _ _ c.is_registered.ensures) c.register.ensures.0 c.register.ensures.1 c.copy.ensures
