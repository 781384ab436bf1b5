-- `write_hexadecimal`: before each turn the octets passed stand there in hexadecimal.
use native.Mathlib.Omega.{arith}
use lib.ListN.{take}
use lib.Seq.{length-take-le}
use Rattle.octets.proofs.Areas.{wrote_none, wrote-length}
use Rattle.records.specs.Text.{hexadecimal}
use Rattle.records.proofs.Text.{length-hexadecimal, hexadecimal-step, wrote_on}
use Rattle.records.proofs.write_hexadecimal.Goals as goal

pub loop-octet-init : goal.loop-octet-init
unfolding hexadecimal
loop-octet-init c = wrote_none _ _

pub write_pair-next-requires : goal.write_pair-next-requires
write_pair-next-requires c =
    omega (arith, wrote-length c.loop-octet.invariant, c.loop-octet.invariant.next, length-hexadecimal (take c.loop-octet.octet-index c.args.s.now), length-take-le c.loop-octet.octet-index c.args.s.now (omega arith))

pub loop-octet-preserved : goal.loop-octet-preserved
loop-octet-preserved c = rw (hexadecimal-step c.args.s.now c.loop-octet.octet-index (omega arith)) (wrote_on c.loop-octet.invariant c.write_pair-next.ensures)
