use native.Mathlib.Omega.{arith}
use Rattle.octets.specs.declared.Form.TheVariants as f
use Rattle.responder.proofs.Lists.{keys-whole}
use Rattle.responder.proofs.Tells.{resources-sent}
use Rattle.responder.proofs.serve_resources.Goals as goal

pub returns : goal.returns
returns c = λ u pool s.
    let y = keys-whole f.Plain c.args.s.now c.args.list (λ i. (c.type_inv.s i).fits) c.requires.list_ends in
    let e = rw c.new-information.ensures.1 at (c.tell_each.ensures.told u pool s) in
    resources-sent u _ _ _ s _ y.0 (omega (arith, y.1)) _ _ (c.room_of.ensures u s.head) e c.requires.limits.2
    c.write.ensures c.told.ensures
