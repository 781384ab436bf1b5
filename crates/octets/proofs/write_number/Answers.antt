use mathlib.Core.Path.{◌≡◌, sym, ◌∙◌}
use mathlib.Core.List.{List}
use Prim.Native.Nat.{ℕ, ◌+◌, ◌-◌, ◌≤◌}
use native.Mathlib.Omega.{arith}
use lib.ListN.{length, take, drop}
use lib.Seq.{take_all}
use Rattle.octets.specs.Number.{octets, width_of}
use Rattle.octets.proofs.Numbers.{octets-last, octets-eight, length-octets, stored-at-once}
use Rattle.octets.proofs.Areas.{laid-all, laid-not}
use Rattle.octets.proofs.write_number.Goals as goal

pub returns-then-out-at : goal.returns-then-out-at
returns-then-out-at c =
    let e = length-octets (width_of c.args.width) c.args.x in
    laid-not c.args.out.now c.args.at (octets (width_of c.args.width) c.args.x) (omega (arith, e, c.octets_of-n.ensures))

pub returns-then-out-at-2 : goal.returns-then-out-at-2
returns-then-out-at-2 c =
    let e = length-octets (width_of c.args.width) c.args.x in
    laid-not c.args.out.now c.args.at (octets (width_of c.args.width) c.args.x) (omega (arith, e, c.octets_of-n.ensures))

pub returns : goal.returns
returns c =
    let x = c.args.x in
    let w = width_of c.args.width in
    let h = c.octets_of-n.ensures in
    let v : List ℕ = octets w x in
    let e : length v ≡ w = length-octets w x in
    let k : 8 - w + w ≡ 8 = omega (arith, h.0) in
    let m : 8 - (8 - w) ≡ w = omega (arith, h.0) in
    let b : c.to_be_bytes-eight.result ≡ octets 8 x = c.to_be_bytes-eight.ensures ∙ sym (octets-eight x) in
    let l : drop (8 - w) (octets 8 x) ≡ v = rw k at (octets-last (8 - w) w x) in
    let t : take w v ≡ v = take_all w v (omega arith) in
    let p = rw (h.0, m, b, l, t) at c.copy_from_slice.ensures.after in
    let r : w ≤ length c.args.out.now - c.args.at = omega (arith, h.0) in
    laid-all c.args.out.now c.args.at v (omega arith)
    (stored-at-once c.args.out.now v _ c.args.at _ p (omega (arith, h.0)) (omega (arith, h.0)))
    (omega (arith, h.0))
