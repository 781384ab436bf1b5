-- `write_digits`: no digit, one, or the digits of a tenth and one more.
use Prim.Native.Nat.{◌-◌, ◌/◌}
use native.Mathlib.Omega.{arith}
use Rattle.octets.proofs.Areas.{wrote_none}
use Rattle.records.proofs.Text.{digits-none, digits-one, digits_more, length_digits, wrote_on}
use Rattle.records.proofs.+write_digits.Goals as goal

pub returns-then-places-eq0 : goal.returns-then-places-eq0
returns-then-places-eq0 t c = rw (digits-none c.args.places c.args.n c.if-places-eq0.true) (wrote_none c.args.out.now c.args.at)

pub returns-then-n-lt10 : goal.returns-then-n-lt10
returns-then-n-lt10 t c = rw (digits-one c.args.places c.args.n (omega arith) c.if-n-lt10.true) c.write_digit.ensures

pub write_digit-requires-2 : goal.write_digit-requires-2
write_digit-requires-2 t c = (omega (arith, c.write_digits-next.ensures.next, length_digits (c.args.places - 1) (c.args.n / 10), c.write_digits-next.auto.out, c.requires), omega arith)

pub returns : goal.returns
returns t c = rw (digits_more c.args.places c.args.n (omega arith) c.if-n-lt10.false) (wrote_on c.write_digits-next.ensures c.write_digit-2.ensures)
