-- A body laid behind its opening is the message sent; a body that is too long is refused; lists that describe no message are refused.
use Prim.Native.Nat.{ℕ, ◌+◌, ◌<◌, ◌≤◌}
use mathlib.Core.Path.{◌≡◌, refl, sym, ap, ◌∙◌}
use mathlib.Core.Bool.{Bool, true, false}
use mathlib.Core.List.{List}
use native.Mathlib.Omega.{arith}
use lib.ListN.{length}
use Rattle.octets.specs.Area.{Laid, Outcome, Does, described}
use Rattle.octets.specs.Layout.{Layout}
use Rattle.octets.specs.Frame.{opened, sent}
use Rattle.octets.specs.Area.{Written}
use Rattle.std.specs.Prelude.{Ok, Err}
use Rattle.octets.specs.declared.Unwritten.TheVariants.{Refused}
use Rattle.octets.proofs.Areas.{laid-holds, laid-ends, open-room, opened-long, sent-refused, sent-done}

module _ {A : Type 0} (L : Layout A) (v k : ℕ) (a : A) (old : List ℕ) where
  pub sent-long : 2042 < length (L.put a) → Does (sent L v k a old) (Err Refused) old
  sent-long h = sent-refused L v k a old (length (L.put a)) old refl (opened-long v k (length (L.put a)) old h)

  pub sent-laid : (n : ℕ) (new y : List ℕ) (p q : ℕ) → n ≡ length (L.put a) → L.fits a ≡ true → Does (opened v k n old) (Ok p) new → Laid new p (L.put a) y q → Does (sent L v k a old) (Ok q) y
  sent-laid n new y p q e g d l =
      let h = open-room v k n old new p d in
      let r : p + length (L.put a) ≤ length new = omega arith in
      sent-done L v k a old n new e p q y g d (laid-holds new p (L.put a) r l) (laid-ends new p (L.put a) r l ∙ ap (λ (x : ℕ). p + x) (sym e))

pub described-not : (b : Bool) (o : Outcome × List ℕ) (old : List ℕ) → b ≡ false → Does (described b o old) (Err Refused) old
described-not true o old e = let z : ◌≡◌ {A = ℕ} 0 1 = cc in absurd (omega arith)
described-not false o old e = record { says = refl; area = refl }

pub described-is : (b : Bool) (o : Outcome × List ℕ) (old : List ℕ) {r : Written} {new : List ℕ} → b ≡ true → Does o r new → Does (described b o old) r new
described-is true o old e d = d
described-is false o old e d = let z : ◌≡◌ {A = ℕ} 0 1 = cc in absurd (omega arith)
