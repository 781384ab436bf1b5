-- Lists given by the entry at each place: every entry of a list that fits does.
use Prim.Native.Nat.{ℕ, zero, suc, ◌<◌}
use mathlib.Core.Path.{◌≡◌, refl}
use mathlib.Core.Bool.{Bool, true, false}
use mathlib.Core.List.{List, [], ◌∷◌, ◌++◌}
use native.Mathlib.Omega.{arith}
use native.Mathlib.Nat.{not-suc-le-zero}
use lib.Dec.{leb}
use lib.ListN.{length, get_or}
use borrow.Author.Tests.{leb-true, leb-false}
use Rattle.std.specs.List.{list_all}
use Rattle.std.proofs.lemmas.List.Sums.{list_all-from_AllPass}
use Rattle.std.proofs.lemmas.List.Elements.{All-from_get_or}
use Rattle.octets.specs.Layout.{Layout, fit_all, listed}
use Rattle.octets.proofs.Places.{both, both-are}

module _ {A : Type 0} (L : Layout A) where
  fit-last : (es : List A) (a : A) → fit_all L (es ++ (a ∷ [])) ≡ true → (fit_all L es ≡ true) × (L.fits a ≡ true)
  fit-last [] a h = (refl, (both (L.fits a) true h).0)
  fit-last (e ∷ es) a h =
      let b = both (L.fits e) (fit_all L (es ++ (a ∷ []))) h in
      let c = fit-last es a b.1 in
      (both-are _ _ b.0 c.0, c.1)

  module _ (f : ℕ → A) where
    pub fit_at : (n i : ℕ) → fit_all L (listed f n) ≡ true → i < n → L.fits (f i) ≡ true
    fit_at zero i e h = absurd (not-suc-le-zero h)
    fit_at (suc n) i e h = let b = fit-last (listed f n) (f n) e in go (leb n i) refl b.1 (λ k. fit_at n i b.0 k)
      where
        go : (t : Bool) → leb n i ≡ t → L.fits (f n) ≡ true → (i < n → L.fits (f i) ≡ true) → L.fits (f i) ≡ true
        go true t b m = let q : i ≡ n = omega (arith, leb-true n i t) in rw q b
        go false t b m = m (leb-false _ _ t)

    -- entries made of a list, with a test that an element of it passes if its entry fits: where some element fails, some entry does not fit
    pub unfit-listed : {X : Type 0} (p : X → Bool) (xs : List X) (d : X) → ((i : ℕ) → L.fits (f i) ≡ true → p (get_or xs i d) ≡ true) → list_all p xs ≡ false
        → fit_all L (listed f (length xs)) ≡ false
    unfit-listed {X} p xs d h e = go (fit_all L (listed f (length xs))) refl
      where
        go : (b : Bool) → fit_all L (listed f (length xs)) ≡ b → b ≡ false
        go true t = let y : list_all p xs ≡ true = list_all-from_AllPass p xs (All-from_get_or (λ x. p x ≡ true) xs d (λ i k. h i (fit_at (length xs) i t k))) in cc
        go false t = refl
