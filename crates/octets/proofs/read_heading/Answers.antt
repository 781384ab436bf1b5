use mathlib.Core.Path.{sym, ◌∙◌}
use native.Mathlib.Omega.{arith}
use Rattle.octets.proofs.Frames.{heading-short, heading-fill, heading-command, heading-is}
use Rattle.octets.proofs.read_heading.Goals as goal

pub returns-in_default : goal.returns-in_default
returns-in_default c = record { says = sym (heading-short c.args.s.now (omega arith)); place = tt }

pub returns-in_default-2 : goal.returns-in_default-2
returns-in_default-2 c =
    record { says = sym (heading-command c.args.s.now (omega arith) (λ e. omega arith)); place = tt }

pub returns-then-fill_of-ne0 : goal.returns-then-fill_of-ne0
returns-then-fill_of-ne0 c =
    record { says = sym (heading-fill c.args.s.now (omega arith) (λ e. c.if-fill_of-ne0.true (c.fill_of.ensures ∙ e))); place = tt }

pub returns : goal.returns
returns c =
    record {
      says = rw c.version_of.ensures (sym (heading-is c.args.s.now (omega arith) (sym c.fill_of.ensures ∙ c.if-fill_of-ne0.false) (omega arith)));
      place = (omega arith, omega (arith, c.version_of.ensures, (c.type_inv.s 0).fits));
    }
