-- `write_answer`: four fields, one behind the other.
use native.Mathlib.Omega.{arith}
use lib.ListN.{length-append}
use Rattle.octets.proofs.Areas.{wrote-more, wrote-length}
use Rattle.records.specs.Text.{digits, decimal, space, line_end, answer_line}
use Rattle.records.proofs.Text.{length_digits, length-hexadecimal, wrote_on}
use Rattle.records.proofs.write_answer.Goals as goal

pub write_hexadecimal-c-requires : goal.write_hexadecimal-c-requires
write_hexadecimal-c-requires c = let d = length_digits 10 c.args.number in
    let w = wrote-more space c.write_digits-a.ensures (omega (arith, c.requires)) c.copy-b.ensures in
    omega (arith, w.next, wrote-length w, length-append (digits 10 c.args.number) space, c.requires)

pub returns : goal.returns
unfolding answer_line decimal
returns c = let d = length_digits 10 c.args.number in
    let x = length-hexadecimal c.args.answer.now in
    let w = wrote-more space c.write_digits-a.ensures (omega (arith, c.requires)) c.copy-b.ensures in
    wrote-more line_end (wrote_on w c.write_hexadecimal-c.ensures) (simp length-append (omega (arith, c.requires))) c.copy.ensures
