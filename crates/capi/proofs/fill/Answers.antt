use Prim.Native.Nat.{◌+◌}
use mathlib.Core.Path.{◌≡◌, refl}
use mathlib.Core.List.{◌++◌}
use native.Mathlib.Omega.{arith}
use lib.ListN.{length, drop}
use lib.Seq.{take_all, sets-eq}
use Rattle.std.proofs.lemmas.Bool.{le-ltb}
use Rattle.octets.proofs.Numbers.{sets-step}
use Rattle.capi.specs.Gate.{filled}
use Rattle.capi.proofs.fill.Goals as goal

pub loop-i-preserved : goal.loop-i-preserved
loop-i-preserved c =
    let z : 0 + c.loop-i.i ≡ c.loop-i.i = omega arith in
    rw c.loop-i.invariant (rw z at (sets-step c.args.fields.now c.args.words.now 0 c.loop-i.i (omega arith)))

pub returns : goal.returns
unfolding filled
returns c =
    let old = c.args.fields.now in
    let words = c.args.words.now in
    let z : 0 + length words ≡ length words = omega arith in
    let e : c.loop-i.fields ≡ words ++ drop (length words) old =
    rw (c.loop-i.invariant, take_all c.loop-i.i words (omega arith)) (rw z at (sets-eq words old 0 (omega arith))) in
    rw (le-ltb (length old) (length words) c.if-fields-words.false) (record { says = refl; area = e })
