-- Fields written one behind the other, from the first: the room that the rest needs is known where the next field is laid.
use Prim.Native.Nat.{ℕ, ◌+◌, ◌≤◌}
use mathlib.Core.Path.{◌≡◌}
use mathlib.Core.Bool.{true}
use mathlib.Core.List.{List, ◌++◌}
use native.Mathlib.Omega.{arith}
use native.Mathlib.Numerals.{add-one}
use lib.ListN.{length, length-append}
use Rattle.octets.specs.Layout.{Layout, put_all, listed}
use Rattle.octets.specs.Area.{Laid, Does, Wrote, Written}
use Rattle.octets.specs.declared.Unwritten.{Unwritten}
use Rattle.octets.specs.declared.Unwritten.TheVariants.{Refused, NoRoom}
use Rattle.octets.specs.Frame.{opened, sent}
use Rattle.std.specs.Prelude.{Ok, Err, IsErrAnd}
use Rattle.octets.proofs.Areas.{laid-holds, laid-ends, wrote-length, wrote-sets, sent-refused, sent-short, sent-done}
use Rattle.octets.proofs.Lists.{put-snoc}

-- a field that has room
pub laid-last : {old v x : List ℕ} {at p : ℕ} → at + length v ≤ length old → Laid old at v x p → Wrote old at v x p
laid-last {old} {v} {x} {at} {p} h l = record { holds = laid-holds old at v h l; next = laid-ends old at v h l }

-- octets behind octets
pub wrote_then : {old v x w y : List ℕ} {at p q : ℕ} → Wrote old at v x p → Wrote x p w y q → Wrote old at (v ++ w) y q
wrote_then {old} {v} {x} {w} {y} {at} {p} {q} a b = wrote-sets w a b.holds b.next

-- a field, and what is written behind it
pub laid_then : {old v x w y : List ℕ} {at p q : ℕ} → at + length (v ++ w) ≤ length old → Laid old at v x p → (p + length w ≤ length x → Wrote x p w y q) → Wrote old at (v ++ w) y q
laid_then {old} {v} {x} {w} {y} {at} {p} {q} h l f =
    let a : Wrote old at v x p = laid-last (omega (arith, length-append v w)) l in
    wrote_then a (f (omega (arith, length-append v w, a.next, wrote-length a)))

-- one entry more of a list, as a loop writes it
pub wrote-next : {A : Type 0} (L : Layout A) (f : ℕ → A) (i : ℕ) {old x y : List ℕ} {at p q : ℕ}
    → Wrote old at (put_all L (listed f i)) x p → Wrote x p (L.put (f i)) y q → Wrote old at (put_all L (listed f (i + 1))) y q
wrote-next L f i a b = rw (add-one i, put-snoc L (listed f i) (f i)) (wrote_then a b)

-- a body written behind its opening is the message sent
pub sent-wrote : {A : Type 0} (L : Layout A) (v k : ℕ) (a : A) (old : List ℕ) {n p q : ℕ} {new y : List ℕ} → n ≡ length (L.put a) → L.fits a ≡ true
    → Does (opened v k n old) (Ok p) new → Wrote new p (L.put a) y q → Does (sent L v k a old) (Ok q) y
sent-wrote L v k a old {n} {p} {q} {new} {y} e g d w = sent-done L v k a old n new e p q y g d w.holds (omega (arith, w.next, e))

-- a message that cannot be opened is not written, for the same reason
module _ {A : Type 0} (L : Layout A) (v k : ℕ) (a : A) (old : List ℕ) {n : ℕ} {new : List ℕ} where
  pub sent-stopped : {e : Unwritten} {r : Written} → n ≡ length (L.put a) → L.fits a ≡ true → Does (opened v k n old) (Err e) new → IsErrAnd r (λ y. y ≡ e) → Does (sent L v k a old) r new
  sent-stopped {e} {r} h g d i = go e r d i
    where
      go : (e : Unwritten) (r : Written) → Does (opened v k n old) (Err e) new → IsErrAnd r (λ y. y ≡ e) → Does (sent L v k a old) r new
      go e (Ok q) d i = absurd i
      go Refused (Err y) d i = rw i (sent-refused L v k a old n new h d)
      go NoRoom (Err y) d i = rw i (sent-short L v k a old n new h g d)
