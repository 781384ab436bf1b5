use Rattle.std.proofs.Common.{◌≡◌, rules, None, sym}
use Rattle.store.proofs.Ways
use Rattle.store.proofs.find.Goals as goal

pub returns-in_err-i : goal.returns-in_err-i
returns-in_err-i c = λ u pool s.
    let none : c.from_residual.result ≡ None = search rules in
    rw none (Ways.find_none u _ _ pool s _ (sym c.in_err-i.ensures))

pub returns : goal.returns
returns c = λ u pool s. rw c.get_slot-slot.ensures (Ways.find-there u _ _ pool s _ _ (sym c.in_ok-i.ensures))
