-- Laws of lists whose elements have a number. Assumes nothing.
use mathlib.Core.Path.{◌≡◌, refl, sym, ap, ◌∙◌}
use mathlib.Core.List.{List, [], ◌∷◌, ◌++◌}
use mathlib.Core.Bool.{Bool, true, false, cond}
use Prim.Native.Nat.{ℕ, zero, suc, ◌<◌}
use native.Mathlib.Omega.{arith}
use native.Mathlib.Decide.{ℕ_discrete}
use lib.ListN.{length, get_or, set}
use lib.Dec.{eqb}
use borrow.Author.Tests.{eq-eqb, ne_eqb}
use Rattle.rows.specs.Keyed.{Maybe, nowhere, here, look, change, unless, without, Apart}
use Rattle.rows.proofs.Places.{remove}

-- where the first with a number stands
pub record Stands {A : Type 0} (key : A → ℕ) (z : A) (x : ℕ) (l : List A) (a : A) : Type 0 where
  pub place : ℕ
  pub low : place < length l
  pub is : get_or l place z ≡ a
  pub has : key a ≡ x

module _ {A : Type 0} (key : A → ℕ) where
  -- a search: the first has the number
  pub look-yes : (x : ℕ) (t : A) (ts : List A) → key t ≡ x → look key x (t ∷ ts) ≡ here t
  unfolding look
  look-yes x t ts e = rw (eq-eqb (key t) x e)

  -- a search: the first has it not
  pub look-no : (x : ℕ) (t : A) (ts : List A) → (key t ≡ x → ⊥) → look key x (t ∷ ts) ≡ look key x ts
  unfolding look
  look-no x t ts n = rw (ne_eqb (key t) x n)

  -- a change: the first has the number
  pub change-yes : (x : ℕ) (g : A → A) (t : A) (ts : List A) → key t ≡ x → change key x g (t ∷ ts) ≡ g t ∷ change key x g ts
  unfolding change
  change-yes x g t ts e = rw (eq-eqb (key t) x e)

  -- a change: the first has it not
  pub change-no : (x : ℕ) (g : A → A) (t : A) (ts : List A) → (key t ≡ x → ⊥) → change key x g (t ∷ ts) ≡ t ∷ change key x g ts
  unfolding change
  change-no x g t ts n = rw (ne_eqb (key t) x n)

  -- a removal: the first has the number
  pub without-yes : (x : ℕ) (t : A) (ts : List A) → key t ≡ x → without key x (t ∷ ts) ≡ without key x ts
  unfolding without
  without-yes x t ts e = rw (eq-eqb (key t) x e)

  -- a removal: the first has it not
  pub without-no : (x : ℕ) (t : A) (ts : List A) → (key t ≡ x → ⊥) → without key x (t ∷ ts) ≡ t ∷ without key x ts
  unfolding without
  without-no x t ts n = rw (ne_eqb (key t) x n)

  -- what is found is not missing
  pub not-here : (o : Maybe A) (a : A) → o ≡ here a → o ≡ nowhere → ⊥
  not-here o a p q = let z : ◌≡◌ {A = ℕ} 0 1 = cc in omega arith

  -- where none has a number, the first has it not
  pub none-head : (x : ℕ) (t : A) (ts : List A) → look key x (t ∷ ts) ≡ nowhere → key t ≡ x → ⊥
  none-head x t ts h e = not-here (look key x (t ∷ ts)) t (look-yes x t ts e) h

  -- and none behind it
  pub none_tail : (x : ℕ) (t : A) (ts : List A) → look key x (t ∷ ts) ≡ nowhere → look key x ts ≡ nowhere
  none_tail x t ts h = sym (look-no x t ts (none-head x t ts h)) ∙ h

  -- where none has a number, no place has it
  pub none-at : (z : A) (x : ℕ) (l : List A) → look key x l ≡ nowhere → (i : ℕ) → i < length l → key (get_or l i z) ≡ x → ⊥
  none-at z x [] h i l e = omega arith
  none-at z x (t ∷ ts) h zero l e = none-head x t ts h e
  none-at z x (t ∷ ts) h (suc i) l e = none-at z x ts (none_tail x t ts h) i (omega arith) e

  -- where no place has a number, none is found
  pub at_none : (z : A) (x : ℕ) (l : List A) → ((i : ℕ) → i < length l → key (get_or l i z) ≡ x → ⊥) → look key x l ≡ nowhere
  unfolding look
  at_none z x [] h = refl
  at_none z x (t ∷ ts) h = look-no x t ts (h 0 (omega arith)) ∙ at_none z x ts (λ i l. h (suc i) (omega arith))

  -- an element is found by its own number
  pub look_at : (z : A) (x : ℕ) (l : List A) (i : ℕ) → i < length l → Apart key l → key (get_or l i z) ≡ x → look key x l ≡ here (get_or l i z)
  unfolding Apart
  look_at z x [] i h p e = absurd (omega arith)
  look_at z x (t ∷ ts) zero h p e = look-yes x t ts e
  look_at z x (t ∷ ts) (suc i) h p e =
      look-no x t ts (λ q. none-at z (key t) ts p.0 i (omega arith) (e ∙ sym q)) ∙ look_at z x ts i (omega arith) p.1 e

  -- what is found stands somewhere
  pub stands : (z : A) (x : ℕ) (l : List A) (a : A) → look key x l ≡ here a → Stands key z x l a
  unfolding look
  stands z x [] a h = absurd (not-here (here a) a refl (sym h))
  stands z x (t ∷ ts) a h = go (ℕ_discrete (key t) x) (stands z x ts a)
    where
      go : Dec (key t ≡ x) → (look key x ts ≡ here a → Stands key z x ts a) → Stands key z x (t ∷ ts) a
      go (yes e) f = let q : here t ≡ here a = sym (look-yes x t ts e) ∙ h in
          let r : t ≡ a = cc in
          record { place = 0; low = omega arith; is = r; has = ap key (sym r) ∙ e }
      go (no n) f = let s = f (sym (look-no x t ts n) ∙ h) in
          record { place = suc s.place; low = omega (arith, s.low); is = s.is; has = s.has }

  -- where none has the number, nothing changes
  pub change-none : (x : ℕ) (g : A → A) (l : List A) → look key x l ≡ nowhere → change key x g l ≡ l
  unfolding change
  change-none x g [] h = refl
  change-none x g (t ∷ ts) h = change-no x g t ts (none-head x t ts h) ∙ ap (λ (r : List A). t ∷ r) (change-none x g ts (none_tail x t ts h))

  -- and nothing goes
  pub without-none : (x : ℕ) (l : List A) → look key x l ≡ nowhere → without key x l ≡ l
  unfolding without
  without-none x [] h = refl
  without-none x (t ∷ ts) h = without-no x t ts (none-head x t ts h) ∙ ap (λ (r : List A). t ∷ r) (without-none x ts (none_tail x t ts h))

  -- the place of the only one with a number is changed
  pub set-change : (z : A) (x : ℕ) (g : A → A) (l : List A) (i : ℕ) → i < length l → Apart key l → key (get_or l i z) ≡ x → set l i (g (get_or l i z)) ≡ change key x g l
  unfolding Apart
  set-change z x g [] i h p e = absurd (omega arith)
  set-change z x g (t ∷ ts) zero h p e =
      ap (λ (r : List A). g t ∷ r) (sym (change-none x g ts (rw (← e) p.0))) ∙ sym (change-yes x g t ts e)
  set-change z x g (t ∷ ts) (suc i) h p e =
      ap (λ (r : List A). t ∷ r) (set-change z x g ts i (omega arith) p.1 e)
      ∙ sym (change-no x g t ts (λ q. none-at z (key t) ts p.0 i (omega arith) (e ∙ sym q)))

  -- the place of the only one with a number goes
  pub remove-without : (z : A) (x : ℕ) (l : List A) (i : ℕ) → i < length l → Apart key l → key (get_or l i z) ≡ x → remove l i ≡ without key x l
  unfolding Apart remove
  remove-without z x [] i h p e = absurd (omega arith)
  remove-without z x (t ∷ ts) zero h p e = sym (without-yes x t ts e ∙ without-none x ts (rw (← e) p.0))
  remove-without z x (t ∷ ts) (suc i) h p e =
      ap (λ (r : List A). t ∷ r) (remove-without z x ts i (omega arith) p.1 e)
      ∙ sym (without-no x t ts (λ q. none-at z (key t) ts p.0 i (omega arith) (e ∙ sym q)))

  -- what was missing is missing after a change
  pub none-change : (y x : ℕ) (g : A → A) → ((a : A) → key (g a) ≡ key a) → (l : List A) → look key y l ≡ nowhere → look key y (change key x g l) ≡ nowhere
  unfolding change
  none-change y x g k [] h = h
  none-change y x g k (t ∷ ts) h = go (eqb (key t) x) (none-change y x g k ts (none_tail y t ts h))
    where
      go : (b : Bool) → look key y (change key x g ts) ≡ nowhere → look key y (cond b (g t) t ∷ change key x g ts) ≡ nowhere
      go true r = look-no y (g t) (change key x g ts) (λ e. none-head y t ts h (sym (k t) ∙ e)) ∙ r
      go false r = look-no y t (change key x g ts) (none-head y t ts h) ∙ r

  -- no number is twice after a change
  pub apart-change : (x : ℕ) (g : A → A) → ((a : A) → key (g a) ≡ key a) → (l : List A) → Apart key l → Apart key (change key x g l)
  unfolding Apart change
  apart-change x g k [] p = p
  apart-change x g k (t ∷ ts) p = go (eqb (key t) x) (apart-change x g k ts p.1)
    where
      go : (b : Bool) → Apart key (change key x g ts) → (look key (key (cond b (g t) t)) (change key x g ts) ≡ nowhere) × Apart key (change key x g ts)
      go true r = (rw (k t) (none-change (key t) x g k ts p.0), r)
      go false r = (none-change (key t) x g k ts p.0, r)

  -- what was missing is missing when some are gone
  pub none-without : (y x : ℕ) (l : List A) → look key y l ≡ nowhere → look key y (without key x l) ≡ nowhere
  unfolding without
  none-without y x [] h = h
  none-without y x (t ∷ ts) h = go (eqb (key t) x) (none-without y x ts (none_tail y t ts h))
    where
      go : (b : Bool) → look key y (without key x ts) ≡ nowhere → look key y (unless b t (without key x ts)) ≡ nowhere
      go true r = r
      go false r = look-no y t (without key x ts) (none-head y t ts h) ∙ r

  -- no number is twice when some are gone
  pub apart-without : (x : ℕ) (l : List A) → Apart key l → Apart key (without key x l)
  unfolding Apart without
  apart-without x [] p = p
  apart-without x (t ∷ ts) p = go (eqb (key t) x) (apart-without x ts p.1)
    where
      go : (b : Bool) → Apart key (without key x ts) → Apart key (unless b t (without key x ts))
      go true r = r
      go false r = (none-without (key t) x ts p.0, r)

  -- what was missing is missing when another is added
  pub none-add : (y : ℕ) (t : A) (l : List A) → look key y l ≡ nowhere → (key t ≡ y → ⊥) → look key y (l ++ t ∷ []) ≡ nowhere
  unfolding look
  none-add y t [] h n = look-no y t [] n
  none-add y t (u ∷ us) h n = look-no y u (us ++ t ∷ []) (none-head y u us h) ∙ none-add y t us (none_tail y u us h) n

  -- no number is twice when one is added that was missing
  pub apart-add : (t : A) (l : List A) → Apart key l → look key (key t) l ≡ nowhere → Apart key (l ++ t ∷ [])
  unfolding Apart look
  apart-add t [] p h = (refl, refl)
  apart-add t (u ∷ us) p h = (none-add (key u) t us p.0 (λ e. none-head (key t) u us h (sym e)), apart-add t us p.1 (none_tail (key t) u us h))

  -- ---- what is found afterwards

  here-same : (a b : A) → here a ≡ here b → a ≡ b
  here-same a b e = cc

  -- what has the number is found changed
  pub look-change : (x : ℕ) (g : A → A) → ((a : A) → key (g a) ≡ key a) → (l : List A) (a : A) → look key x l ≡ here a → look key x (change key x g l) ≡ here (g a)
  unfolding look
  look-change x g k [] a h = absurd (not-here (here a) a refl (sym h))
  look-change x g k (t ∷ ts) a h = go (ℕ_discrete (key t) x) (look-change x g k ts a)
    where
      go : Dec (key t ≡ x) → (look key x ts ≡ here a → look key x (change key x g ts) ≡ here (g a)) → look key x (change key x g (t ∷ ts)) ≡ here (g a)
      go (yes e) f =
          ap (look key x) (change-yes x g t ts e) ∙ look-yes x (g t) (change key x g ts) (k t ∙ e)
          ∙ ap (λ (b : A). here (g b)) (here-same t a (sym (look-yes x t ts e) ∙ h))
      go (no n) f =
          ap (look key x) (change-no x g t ts n) ∙ look-no x t (change key x g ts) n ∙ f (sym (look-no x t ts n) ∙ h)

  -- what has another number is found as it was
  pub look-change-other : (y x : ℕ) (g : A → A) → ((a : A) → key (g a) ≡ key a) → (y ≡ x → ⊥) → (l : List A) → look key y (change key x g l) ≡ look key y l
  unfolding look change
  look-change-other y x g k n [] = refl
  look-change-other y x g k n (t ∷ ts) = go (ℕ_discrete (key t) x) (look-change-other y x g k n ts)
    where
      go : Dec (key t ≡ x) → look key y (change key x g ts) ≡ look key y ts → look key y (change key x g (t ∷ ts)) ≡ look key y (t ∷ ts)
      go (yes e) f =
          ap (look key y) (change-yes x g t ts e) ∙ look-no y (g t) (change key x g ts) (λ q. n (sym q ∙ k t ∙ e)) ∙ f
          ∙ sym (look-no y t ts (λ q. n (sym q ∙ e)))
      go (no m) f = ap (look key y) (change-no x g t ts m) ∙ ap (cond (eqb (key t) y) (here t)) f

  -- what is gone is not found
  pub look-without : (x : ℕ) (l : List A) → look key x (without key x l) ≡ nowhere
  unfolding look without
  look-without x [] = refl
  look-without x (t ∷ ts) = go (ℕ_discrete (key t) x) (look-without x ts)
    where
      go : Dec (key t ≡ x) → look key x (without key x ts) ≡ nowhere → look key x (without key x (t ∷ ts)) ≡ nowhere
      go (yes e) f = ap (look key x) (without-yes x t ts e) ∙ f
      go (no n) f = ap (look key x) (without-no x t ts n) ∙ look-no x t (without key x ts) n ∙ f

  -- what has another number is found as before
  pub look-without-other : (y x : ℕ) → (y ≡ x → ⊥) → (l : List A) → look key y (without key x l) ≡ look key y l
  unfolding look without
  look-without-other y x n [] = refl
  look-without-other y x n (t ∷ ts) = go (ℕ_discrete (key t) x) (look-without-other y x n ts)
    where
      go : Dec (key t ≡ x) → look key y (without key x ts) ≡ look key y ts → look key y (without key x (t ∷ ts)) ≡ look key y (t ∷ ts)
      go (yes e) f = ap (look key y) (without-yes x t ts e) ∙ f ∙ sym (look-no y t ts (λ q. n (sym q ∙ e)))
      go (no m) f = ap (look key y) (without-no x t ts m) ∙ ap (cond (eqb (key t) y) (here t)) f

  -- what comes last is found, unless its number was there
  pub look-add : (x : ℕ) (t : A) (l : List A) → key t ≡ x → look key x l ≡ nowhere → look key x (l ++ t ∷ []) ≡ here t
  look-add x t [] e h = look-yes x t [] e
  look-add x t (u ∷ us) e h = look-no x u (us ++ t ∷ []) (none-head x u us h) ∙ look-add x t us e (none_tail x u us h)

  -- and what has another number is found as before
  pub look-add-other : (y : ℕ) (t : A) (l : List A) → (key t ≡ y → ⊥) → look key y (l ++ t ∷ []) ≡ look key y l
  unfolding look
  look-add-other y t [] n = look-no y t [] n
  look-add-other y t (u ∷ us) n = ap (cond (eqb (key u) y) (here u)) (look-add-other y t us n)
