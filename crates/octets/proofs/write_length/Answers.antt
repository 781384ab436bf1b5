use mathlib.Core.Path.{◌≡◌, refl, ap}
use mathlib.Core.List.{[], ◌∷◌}
use Prim.Native.Nat.{◌+◌, ◌/◌, ◌%◌}
use native.Mathlib.Omega.{arith}
use lib.ListN.{length, length-set}
use native.Mathlib.Numerals.{add-one}
use Rattle.octets.specs.Length.{encode_length}
use Rattle.octets.specs.Layout.{field_octets, size}
use Rattle.octets.proofs.Lengths.{encode-short, encode-long, length-octets-are, length-octets-none}
use Rattle.octets.proofs.Areas.{laid-all, laid-not, laid_none}
use Rattle.octets.proofs.write_length.Goals as goal

pub returns-then-n-ge16384 : goal.returns-then-n-ge16384
returns-then-n-ge16384 c = rw (length-octets-none c.args.n c.if-n-ge16384.true) (laid_none c.args.out.now c.args.at)

pub returns-then-out-at : goal.returns-then-out-at
returns-then-out-at c =
    let e : field_octets size c.args.n ≡ encode_length c.args.n = length-octets-are c.args.n (omega arith) in
    rw e (laid-not c.args.out.now c.args.at (encode_length c.args.n) (omega arith))

pub returns-then-out-at-2 : goal.returns-then-out-at-2
returns-then-out-at-2 c =
    let e : field_octets size c.args.n ≡ encode_length c.args.n = length-octets-are c.args.n (omega arith) in
    rw e (laid-not c.args.out.now c.args.at (encode_length c.args.n) (omega (arith, c.length_size.ensures)))

pub bounds-out-at : goal.bounds-out-at
bounds-out-at c =
    let e = encode-short c.args.n (omega arith) in
    omega (arith, ap length e, c.length_size.ensures)

pub returns-then-n-lt128 : goal.returns-then-n-lt128
returns-then-n-lt128 c =
    let e : field_octets size c.args.n ≡ encode_length c.args.n = length-octets-are c.args.n (omega arith) in
    let f = encode-short c.args.n (omega arith) in
    rw (e, f) (laid-all c.args.out.now c.args.at (c.args.n ∷ []) (omega (arith, ap length f, c.length_size.ensures)) refl refl)

pub bounds-out-at-2 : goal.bounds-out-at-2
bounds-out-at-2 c =
    let e = encode-long c.args.n (omega arith) in
    omega (arith, ap length e, c.length_size.ensures)

pub bounds-out-i : goal.bounds-out-i
bounds-out-i c =
    let e = encode-long c.args.n (omega arith) in
    simp length-set (omega (arith, ap length e, c.length_size.ensures))

pub returns : goal.returns
returns c =
    let e : field_octets size c.args.n ≡ encode_length c.args.n = length-octets-are c.args.n (omega arith) in
    let f = encode-long c.args.n (omega arith) in
    rw (e, f) (laid-all c.args.out.now c.args.at ((128 + c.args.n / 256) ∷ (c.args.n % 256) ∷ []) (omega (arith, ap length f, c.length_size.ensures)) (rw add-one) refl)
