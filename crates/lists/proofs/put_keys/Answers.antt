use mathlib.Core.Path.{◌≡◌}
use native.Mathlib.Omega.{arith}
use lib.ListN.{length}
use Rattle.octets.proofs.Areas.{wrote_none, wrote-length}
use Rattle.lists.proofs.Handed.{wrote-key}
use Rattle.lists.proofs.put_keys.Goals as goal

pub loop-i-init : goal.loop-i-init
loop-i-init c = wrote_none c.args.out.now c.args.at

pub loop-i-preserved : goal.loop-i-preserved
loop-i-preserved c =
    wrote-key c.args.keys.form c.args.keys.tags.now c.args.keys.passwords.now c.loop-i.i c.access.ensures (omega arith) c.requires c.loop-i.invariant c.put_key-next.ensures

pub shape_of-out : goal.shape_of-out
shape_of-out c = wrote-length c.loop-i.invariant

pub returns : goal.returns
returns c =
    let e : c.loop-i.i ≡ length c.args.keys.tags.now = omega arith in
    rw e at c.loop-i.invariant
