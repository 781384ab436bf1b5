use native.Mathlib.Omega.{arith}
use Rattle.responder.proofs.Lists.{helds-whole}
use Rattle.responder.proofs.Writable.{bulk-write-fine}
use Rattle.responder.proofs.Writes.{writes-served}
use Rattle.responder.proofs.bulk_write.Goals as goal

pub returns : goal.returns
returns c = λ u s.
    let y = helds-whole c.args.form c.args.s.now c.args.list (λ i. (c.type_inv.s i).fits) c.requires.list_ends in
    writes-served u _ _ _ _ _ _ c.args.form _ _ s (rw c.new-names.ensures.1 at (c.write_each.ensures.written u s))
    (bulk-write-fine u _ _ s.valid _ y.0 (omega (arith, y.1))) c.requires.room.1 c.write.ensures c.told.ensures
