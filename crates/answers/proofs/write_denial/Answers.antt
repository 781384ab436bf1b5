use Prim.Native.Nat.{ℕ, ◌*◌, ◌%◌}
use mathlib.Core.Path.{◌≡◌, ap, ◌∙◌}
use mathlib.Core.List.{List, [], ◌∷◌}
use native.Mathlib.Nat.{zero-add}
use native.Mathlib.Omega.{arith}
use lib.ListN.{length}
use Rattle.octets.specs.Area.{Wrote}
use Rattle.octets.proofs.Lengths.{encode-short}
use Rattle.octets.proofs.Areas.{laid-holds, laid-ends, wrote-more, written-refused, written-short, written-done}
use Rattle.answers.specs.Denial.{Denial, denial}
use Rattle.answers.proofs.Denials.{length-denial, denial-version, denial-long, denial-fit, denial-parts}
use Rattle.answers.proofs.write_denial.Goals as goal

pub returns-then-version-gt15 : goal.returns-then-version-gt15
returns-then-version-gt15 c =
    let d : Denial = record { version = c.args.version; status = c.args.status; supplement = c.args.supplement.now } in
    written-refused _ (denial.put d) _ (denial-version d c.if-version-gt15.true)

pub returns-then-n-gt127 : goal.returns-then-n-gt127
returns-then-n-gt127 c =
    let d : Denial = record { version = c.args.version; status = c.args.status; supplement = c.args.supplement.now } in
    written-refused _ (denial.put d) _ (denial-long d (omega (arith, c.if-n-gt127.true)))

pub returns-then-out-n : goal.returns-then-out-n
returns-then-out-n c =
    let d : Denial = record { version = c.args.version; status = c.args.status; supplement = c.args.supplement.now } in
    let n = encode-short (length c.args.supplement.now) (omega arith) in
    rw (denial-fit d (omega arith) c.ranges.status.fits (omega arith)) (written-short (denial.put d) c.args.out.now (omega (arith, length-denial d, ap length n)))

pub returns : goal.returns
returns c =
    let d : Denial = record { version = c.args.version; status = c.args.status; supplement = c.args.supplement.now } in
    let f = denial-fit d (omega arith) c.ranges.status.fits (omega arith) in
    let l = ap length (encode-short (length d.supplement) (omega arith)) in
    let e : c.args.version * 16 % 256 ≡ c.args.version * 16 = omega arith in
    let front : List ℕ = (c.args.version * 16) ∷ 255 ∷ c.args.status ∷ length d.supplement ∷ [] in
    let h = rw e at c.copy-at.ensures in
    let w : Wrote c.args.out.now 0 front c.copy-at.new.out c.copy-at.result = record {
      holds = laid-holds c.args.out.now 0 front (omega arith) h;
      next = laid-ends c.args.out.now 0 front (omega arith) h;
    } in
    let m = wrote-more d.supplement w (omega arith) c.copy.ensures in
    let p = denial-parts d (omega arith) c.ranges.status.fits (omega arith) in
    rw f (written-done (denial.put d) c.args.out.now _ _ (omega (arith, length-denial d)) (rw p (m.next ∙ zero-add _))
    (rw p m.holds))
