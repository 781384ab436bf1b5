-- `write_words`: three fields, one behind the other.
use native.Mathlib.Omega.{arith}
use lib.ListN.{length-append}
use Rattle.octets.proofs.Areas.{wrote_none, wrote-more, wrote-length}
use Rattle.records.specs.Text.{decimal, line_end, worded}
use Rattle.records.proofs.Text.{length_digits, wrote_on}
use Rattle.records.proofs.write_words.Goals as goal

pub write_digits-b-requires : goal.write_digits-b-requires
write_digits-b-requires c = let w = wrote-more c.args.words.now (wrote_none c.args.out.now c.args.at) (omega (arith, c.requires)) c.copy-a.ensures in
    omega (arith, w.next, wrote-length w, c.requires)

pub returns : goal.returns
unfolding worded decimal
returns c = let w = wrote-more c.args.words.now (wrote_none c.args.out.now c.args.at) (omega (arith, c.requires)) c.copy-a.ensures in
    wrote-more line_end (wrote_on w c.write_digits-b.ensures) (simp length-append (omega (arith, length_digits 10 c.args.number, c.requires))) c.copy.ensures
