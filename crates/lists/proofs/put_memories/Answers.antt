use mathlib.Core.Path.{◌≡◌}
use native.Mathlib.Omega.{arith}
use lib.ListN.{length}
use Rattle.octets.proofs.Areas.{wrote_none, wrote-length}
use Rattle.lists.proofs.Handed.{wrote-memory}
use Rattle.lists.proofs.put_memories.Goals as goal

pub loop-i-init : goal.loop-i-init
loop-i-init c = wrote_none c.args.out.now c.args.at

pub loop-i-preserved : goal.loop-i-preserved
loop-i-preserved c =
    let m = c.args.memories in
    wrote-memory m.keys.form m.keys.tags.now m.keys.passwords.now m.starts.now m.lengths.now m.src.now c.requires.0 c.loop-i.i c.access.ensures c.part-piece.ensures (omega arith) c.requires.1 c.loop-i.invariant c.put_memory-next.ensures

pub shape_of-out : goal.shape_of-out
shape_of-out c = wrote-length c.loop-i.invariant

pub returns : goal.returns
returns c =
    let e : c.loop-i.i ≡ length c.args.memories.keys.tags.now = omega arith in
    rw e at c.loop-i.invariant
