use mathlib.Core.Path.{◌≡◌, sym}
use Prim.Native.Nat.{◌+◌, ◌-◌, ◌≤◌}
use native.Mathlib.Omega.{arith}
use lib.ListN.{length, take, drop, length-drop}
use lib.Seq.{length-take-le}
use Rattle.octets.specs.Number.{width_of}
use Rattle.octets.proofs.Numbers.{number_short, number_fits}
use Rattle.octets.proofs.Reader.number.Goals as goal

pub returns-then-s-at : goal.returns-then-s-at
returns-then-s-at c =
    record { says = sym (number_short c.args.self.src.now c.args.self.at (width_of c.args.width) (omega (arith, c.octets_of-n.ensures))); place = tt }

pub returns-then-s-at-2 : goal.returns-then-s-at-2
returns-then-s-at-2 c =
    record { says = sym (number_short c.args.self.src.now c.args.self.at (width_of c.args.width) (omega (arith, c.octets_of-n.ensures))); place = tt }

pub returns : goal.returns
returns c =
    let s = c.args.self.src.now in
    let at = c.args.self.at in
    let w = width_of c.args.width in
    let h : w ≤ length s - at = omega (arith, c.octets_of-n.ensures.0) in
    let n : at + c.octets_of-n.result - at ≡ w = omega (arith, c.octets_of-n.ensures.0) in
    let e = rw n at c.number_of.ensures in
    let l : length (take w (drop at s)) ≡ w = length-take-le w (drop at s) (rw length-drop h) in
    record {
      says = rw (c.octets_of-n.ensures.0, e.0) (sym (number_fits s at w h));
      place = (omega (arith, c.octets_of-n.ensures.0), rw l at e.1);
    }
