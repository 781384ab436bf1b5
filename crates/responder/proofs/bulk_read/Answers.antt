use native.Mathlib.Omega.{arith}
use Rattle.responder.proofs.Lists.{keys-whole}
use Rattle.responder.proofs.Chooses.{bulk-read-sent}
use Rattle.responder.proofs.bulk_read.Goals as goal

pub returns : goal.returns
returns c = λ u s.
    let y = keys-whole c.args.form c.args.s.now c.args.list (λ i. (c.type_inv.s i).fits) c.requires.list_ends in
    let k = c.new-chosen.ensures.picked c.args.pool.now in
    let e = rw k.1 at (c.choose_each.ensures.chosen u c.args.pool.now s k.0) in
    bulk-read-sent u _ _ _ s c.args.port c.args.form _ y.0 (omega (arith, y.1)) _ e.1 c.requires.room.1
    (c.write.ensures e.0) c.told.ensures
