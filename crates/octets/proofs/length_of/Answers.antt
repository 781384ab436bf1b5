use native.Mathlib.Omega.{arith}
use mathlib.Core.Path.{sym}
use Prim.Native.Nat.{◌+◌}
use Rattle.octets.proofs.Lengths.{length_none, length-short, length_high, length_cut, length-waste, length-long}
use Rattle.octets.proofs.length_of.Goals as goal

pub returns-then-s-at : goal.returns-then-s-at
returns-then-s-at c =
    record { says = sym (length_none c.args.s.now c.args.at (omega arith)); place = tt }

pub returns-then-a-lt128 : goal.returns-then-a-lt128
returns-then-a-lt128 c =
    record { says = sym (length-short c.args.s.now c.args.at (omega arith) (omega arith)); place = (omega arith, omega arith, omega arith) }

pub returns-then-a-ge192 : goal.returns-then-a-ge192
returns-then-a-ge192 c =
    record { says = sym (length_high c.args.s.now c.args.at (omega arith) (omega arith)); place = tt }

pub returns-then-s-at-lt2 : goal.returns-then-s-at-lt2
returns-then-s-at-lt2 c =
    record { says = sym (length_cut c.args.s.now c.args.at (omega arith) (omega arith) (omega arith) (omega arith)); place = tt }

pub returns-then-n-le127 : goal.returns-then-n-le127
returns-then-n-le127 c =
    record { says = sym (length-waste c.args.s.now c.args.at (omega arith) (omega arith) (omega arith) (omega arith) (omega arith)); place = tt }

pub returns : goal.returns
returns c =
    record { says = sym (length-long c.args.s.now c.args.at (omega arith) (omega arith) (omega arith) (omega arith) (omega arith)); place = (omega arith, omega arith, omega (arith, c.type_inv.s (c.args.at + 1))) }
