use native.Mathlib.Omega.{arith}
use Rattle.octets.proofs.Areas.{wrote-length}
use Rattle.octets.proofs.Lists.{put-even}
use Rattle.resources.specs.Resource.{resource, resource_at}
use Rattle.resources.proofs.Bodies.{length-resource}
use Rattle.resources.proofs.Fields.{wrote-next}
use Rattle.resources.proofs.put_resources.Goals as goal

pub put_resource-next-requires : goal.put_resource-next-requires
put_resource-next-requires c =
    let f = resource_at c.args.tags.now c.args.modes.now c.args.held.now c.args.sizes.now in
    let e = put-even resource f 17 length-resource c.loop-i.i in
    omega (arith, c.loop-i.invariant.1.next, wrote-length c.loop-i.invariant.1)

pub loop-i-preserved : goal.loop-i-preserved
loop-i-preserved c =
    (omega arith, wrote-next resource (resource_at c.args.tags.now c.args.modes.now c.args.held.now c.args.sizes.now) c.loop-i.i c.loop-i.invariant.1 c.put_resource-next.ensures)
