use lib.ListN.{take}
use Rattle.octets.specs.Area.{Wrote}
use Rattle.records.specs.Text.{hexadecimal}
use Rattle.records.proofs.write_hexadecimal.Given as goal

abbrev pub invariant-loop-octet : goal.invariant-loop-octet
invariant-loop-octet l = Wrote l.initial.out l.at (hexadecimal (take l.octet-index l.s)) l.out l.next
