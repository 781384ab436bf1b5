-- Lists read in place: what was gone over entry by entry is the list behind its count; entries that all take as many octets need not be gone over.
use Prim.Native.Nat.{ℕ, zero, suc, ◌+◌, ◌-◌, ◌*◌, ◌<◌, ◌≤◌}
use mathlib.Core.Path.{◌≡◌, refl, sym, ◌∙◌}
use mathlib.Core.Bool.{Bool, true, false}
use mathlib.Core.List.{List}
use native.Mathlib.Omega.{arith}
use native.Mathlib.Nat.{zero-mul, suc-mul, add-zero}
use native.Mathlib.Numerals.{unary_clauses}
use lib.ListN.{length, take, drop}
use lib.Dec.{leb}
use borrow.Author.Tests.{leb-true, leb-false}
use Rattle.octets.specs.Reading.{bad, ok, forget}
use Rattle.octets.specs.Number.{number}
use Rattle.octets.specs.Layout.{Layout, entries}
use Rattle.octets.specs.declared.Fault.TheVariants.{Other}
use Rattle.octets.specs.declared.Access.TheVariants as a
use Rattle.octets.specs.declared.Form.{Form}
use Rattle.octets.specs.declared.Form.TheVariants as f
use Rattle.octets.specs.View.{Walked}
use Rattle.std.specs.Prelude.{Ok, Err}
use Rattle.octets.proofs.Walks.{walked_to, walked-bad}
use Rattle.octets.proofs.Places.{walk-on}
use Rattle.octets.proofs.Numbers.{number_short, number_fits}
use Rattle.tags.specs.Entry.{lock_size, key}

-- ---- entries that all take as many octets

-- whatever k octets stand for a value, and fewer for none
pub record Even {A : Type 0} (L : Layout A) (k : ℕ) : Type 0 where
  pub whole : (s : List ℕ) (at : ℕ) → k ≤ length s - at → (a : A) × (L.get (drop at s) ≡ ok a (drop (at + k) s))
  pub cut : (s : List ℕ) (at : ℕ) → length s - at < k → L.get (drop at s) ≡ bad Other

module _ {A : Type 0} (L : Layout A) (k : ℕ) (P : Even L k) (s : List ℕ) where
  even-next : (n at : ℕ) → k ≤ length s - at → forget (entries L (suc n) (drop at s)) ≡ forget (entries L n (drop (at + k) s))
  even-next n at h = let x = P.whole s at h in simp unary_clauses at (walk-on L (suc n) 0 (drop at s) (omega arith) x.0 (drop (at + k) s) (sym x.1))

  pub even-all : (n at : ℕ) → n * k ≤ length s - at → forget (entries L n (drop at s)) ≡ ok tt (drop (at + n * k) s)
  even-all zero at h = rw (zero-mul k, add-zero at)
  even-all (suc n) at h =
      let q : suc n * k ≡ n * k + k = suc-mul n k in
      let e : at + suc n * k ≡ at + k + n * k = omega arith in
      rw e (even-next n at (omega arith) ∙ even-all n (at + k) (omega arith))

  pub even-cut : (n at : ℕ) → length s - at < n * k → forget (entries L n (drop at s)) ≡ bad Other
  even-cut zero at h = let q : 0 * k ≡ 0 = zero-mul k in absurd (omega arith)
  even-cut (suc n) at h = go (leb k (length s - at)) refl (λ g. even-cut n (at + k) g)
    where
      go : (b : Bool) → leb k (length s - at) ≡ b → (length s - (at + k) < n * k → forget (entries L n (drop (at + k) s)) ≡ bad Other) → forget (entries L (suc n) (drop at s)) ≡ bad Other
      go true t m = let q : suc n * k ≡ n * k + k = suc-mul n k in even-next n at (leb-true _ _ t) ∙ m (omega (arith, leb-true k (length s - at) t))
      go false t m = rw (P.cut s at (leb-false _ _ t))

pub key-even : (w : Form) → Even (key w) (8 + lock_size w)
key-even f.Plain = record {
  whole = λ s at h. ((number (take 8 (drop at s)), a.Plain), rw (number_fits s at 8 h));
  cut = λ s at h. rw (number_short s at 8 h);
}
key-even f.Password = record {
  whole = λ s at h.
      let g : 8 ≤ length s - at = omega arith in
      let j : 8 ≤ length s - (at + 8) = omega arith in
      let e : at + 8 + 8 ≡ at + 16 = omega arith in
      ((number (take 8 (drop at s)), a.Password (number (take 8 (drop (at + 8) s)))), rw (number_fits s at 8 g, number_fits s (at + 8) 8 j, e));
  cut = λ s at h. go s at h (leb 8 (length s - at)) refl;
}
  where
    go : (s : List ℕ) (at : ℕ) → length s - at < 16 → (b : Bool) → leb 8 (length s - at) ≡ b → (key f.Password).get (drop at s) ≡ bad Other
    go s at h true t =
        let j : length s - (at + 8) < 8 = omega arith in
        rw (number_fits s at 8 (leb-true _ _ t), number_short s (at + 8) 8 j)
    go s at h false t = rw (number_short s at 8 (leb-false _ _ t))

-- a list of tags, by the code's test
module _ (w : Form) (s : List ℕ) (at n : ℕ) {b : ℕ} (e : b ≡ lock_size w) where
  pub keys-cut : length s - at < n * (8 + b) → Walked (key w) s at n (Err Other)
  keys-cut h = walked-bad (key w) s at n Other (even-cut (key w) (8 + lock_size w) (key-even w) s n at (rw (← e) h))

  pub keys-all : at ≤ length s → n * (8 + b) ≤ length s - at → Walked (key w) s at n (Ok (record { value = record { start = at; count = n }; next = at + n * (8 + b) }))
  keys-all g h = walked_to (key w) s at n (at + n * (8 + b)) g (omega arith) (rw e (even-all (key w) (8 + lock_size w) (key-even w) s n at (rw (← e) h)))
