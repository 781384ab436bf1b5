-- `write_stop`: two lines, one behind the other.
use Prim.Native.Nat.{◌+◌}
use native.Mathlib.Omega.{arith}
use native.Mathlib.Numerals.{add-one}
use Rattle.octets.proofs.Areas.{wrote-length}
use Rattle.records.specs.Text.{bad_words}
use Rattle.records.proofs.Text.{length-worded, wrote_on}
use Rattle.records.proofs.write_stop.Goals as goal

pub write_end-requires : goal.write_end-requires
write_end-requires c = omega (arith, c.write_words-next.ensures.next, wrote-length c.write_words-next.ensures, length-worded bad_words (c.args.answered + 1), c.requires)

pub returns : goal.returns
returns c = rw (← add-one c.args.answered) (wrote_on c.write_words-next.ensures c.write_end.ensures)
