-- What a store, a close-up and a load do to the numbers that stand for a list of anything. Assumes nothing.
use mathlib.Core.Path.{◌≡◌, refl, sym, ap, ◌∙◌}
use mathlib.Core.List.{List, [], ◌∷◌, ◌++◌, append-nil, append_assoc, flat_map}
use Prim.Native.Nat.{ℕ, suc, ◌+◌, ◌-◌, ◌≤◌, ◌<◌}
use native.Mathlib.Omega.{arith}
use lib.ListN.{length, take, drop, get_or, set, replicate, length-append, length-replicate, length-set, replicate-append-replicate}
use lib.Seq.{sets, split_at, set_split}
use Rattle.rows.specs.Image.{image, closed}
use Rattle.rows.proofs.Places.{remove, sets-mid, closed-mid, set-mid, get_or-mid}

-- the length in three parts
length3 : (a b c : List ℕ) → length (a ++ (b ++ c)) ≡ length a + (length b + length c)
length3 a b c = omega (arith, length-append a (b ++ c), length-append b c)

zeros-split : (k n : ℕ) → k ≤ n → replicate {A = ℕ} n 0 ≡ replicate k 0 ++ replicate (n - k) 0
zeros-split k n h = let e : k + (n - k) ≡ n = omega arith in sym (rw e at (replicate-append-replicate {A = ℕ} k (n - k) 0))

module _ {A : Type 0} where
  -- two lists one after the other
  pub flat_append : (f : A → List ℕ) (xs ys : List A) → flat_map f (xs ++ ys) ≡ flat_map f xs ++ flat_map f ys
  unfolding flat_map
  flat_append f [] ys = refl
  flat_append f (t ∷ xs) ys = ap (λ (r : List ℕ). f t ++ r) (flat_append f xs ys) ∙ sym (append_assoc (f t) (flat_map f xs) (flat_map f ys))

  -- the first and the rest
  pub flat-cons : (f : A → List ℕ) (t : A) (ts : List A) → flat_map f (t ∷ ts) ≡ f t ++ flat_map f ts
  unfolding flat_map
  flat-cons f t ts = refl

  flat-one : (f : A → List ℕ) (t : A) → flat_map f (t ∷ []) ≡ f t
  unfolding flat_map
  flat-one f t = append-nil (f t)

  flat-remove : (f : A → List ℕ) (m : List A) (i : ℕ) → flat_map f (remove m i) ≡ flat_map f (take i m) ++ flat_map f (drop (suc i) m)
  unfolding remove
  flat-remove f m i = flat_append f (take i m) (drop (suc i) m)

  -- one more
  pub flat-add : (f : A → List ℕ) (m : List A) (t : A) → flat_map f (m ++ t ∷ []) ≡ flat_map f m ++ f t
  flat-add f m t = flat_append f m (t ∷ []) ∙ ap (λ (r : List ℕ). flat_map f m ++ r) (flat-one f t)

  -- its length
  pub length-flat-add : (f : A → List ℕ) (m : List A) (t : A) → length (flat_map f (m ++ t ∷ [])) ≡ length (flat_map f m) + length (f t)
  length-flat-add f m t = ap length (flat-add f m t) ∙ length-append (flat_map f m) (f t)

  -- an image is as long as its slice
  pub length-image : (f : A → List ℕ) (m : List A) (n : ℕ) → length (flat_map f m) ≤ n → length (image f m n) ≡ n
  unfolding image
  length-image f m n h =
      omega (arith, length-append (flat_map f m) (replicate (n - length (flat_map f m)) 0), length-replicate {A = ℕ} (n - length (flat_map f m)) 0)

  -- nothing stands for zeros alone
  pub image-none : (f : A → List ℕ) (n : ℕ) → replicate n 0 ≡ image f [] n
  unfolding image flat_map
  image-none f n = let e : n ≡ n - 0 = omega arith in ap (λ (k : ℕ). replicate k 0) e

  -- `x` where element i stood, and the rest as it was
  abbrev pub around : (A → List ℕ) → List A → ℕ → ℕ → List ℕ → List ℕ
  around f m i n x = flat_map f (take i m) ++ (x ++ (flat_map f (drop (suc i) m) ++ replicate (n - length (flat_map f m)) 0))

module _ {A : Type 0} (z : A) where
  flat-split : (f : A → List ℕ) (m : List A) (i : ℕ) → i < length m
      → flat_map f m ≡ flat_map f (take i m) ++ (f (get_or m i z) ++ flat_map f (drop (suc i) m))
  flat-split f m i h =
      ap (flat_map f) (split_at m i z h) ∙ flat_append f (take i m) (get_or m i z ∷ drop (suc i) m)
      ∙ ap (λ (r : List ℕ). flat_map f (take i m) ++ r) (flat-cons f (get_or m i z) (drop (suc i) m))

  flat-set : (f : A → List ℕ) (m : List A) (i : ℕ) (t : A) → i < length m
      → flat_map f (set m i t) ≡ flat_map f (take i m) ++ (f t ++ flat_map f (drop (suc i) m))
  flat-set f m i t h =
      ap (flat_map f) (set_split m i t h) ∙ flat_append f (take i m) (t ∷ drop (suc i) m)
      ∙ ap (λ (r : List ℕ). flat_map f (take i m) ++ r) (flat-cons f t (drop (suc i) m))

  -- ---- lengths

  -- what stands before element i, what it stands for, and what stands behind it
  pub length-flat : (f : A → List ℕ) (m : List A) (i : ℕ) → i < length m
      → length (flat_map f m) ≡ length (flat_map f (take i m)) + (length (f (get_or m i z)) + length (flat_map f (drop (suc i) m)))
  length-flat f m i h = ap length (flat-split f m i h) ∙ length3 (flat_map f (take i m)) (f (get_or m i z)) (flat_map f (drop (suc i) m))

  -- another of the same length in its place
  pub length-flat-set : (f : A → List ℕ) (m : List A) (i : ℕ) (t : A) → i < length m → length (f t) ≡ length (f (get_or m i z))
      → length (flat_map f (set m i t)) ≡ length (flat_map f m)
  length-flat-set f m i t h e =
      omega (arith, ap length (flat-set f m i t h), length3 (flat_map f (take i m)) (f t) (flat_map f (drop (suc i) m)), length-flat f m i h)

  -- one less
  pub length-flat-remove : (f : A → List ℕ) (m : List A) (i : ℕ) → i < length m
      → length (flat_map f (remove m i)) + length (f (get_or m i z)) ≡ length (flat_map f m)
  length-flat-remove f m i h =
      omega (arith, ap length (flat-remove f m i), length-append (flat_map f (take i m)) (flat_map f (drop (suc i) m)), length-flat f m i h)

  -- ---- one element

  -- an image is cut around element i
  pub image-around : (f : A → List ℕ) (m : List A) (i n : ℕ) → i < length m → image f m n ≡ around f m i n (f (get_or m i z))
  unfolding image
  image-around f m i n h =
      ap (λ (r : List ℕ). r ++ replicate (n - length (flat_map f m)) 0) (flat-split f m i h)
      ∙ simp append_assoc

  -- and so is the image with another of the same length in its place
  pub image-set : (f : A → List ℕ) (m : List A) (i n : ℕ) (t : A) → i < length m → length (f t) ≡ length (f (get_or m i z))
      → image f (set m i t) n ≡ around f m i n (f t)
  unfolding image
  image-set f m i n t h e =
      rw (length-flat-set f m i t h e, flat-set f m i t h) (simp append_assoc)

  -- a store of one number
  pub image-store : (f : A → List ℕ) (m : List A) (i n at k j v : ℕ) (t : A) → i < length m → at ≡ length (flat_map f (take i m)) → j ≡ at + k
      → k < length (f (get_or m i z)) → set (f (get_or m i z)) k v ≡ f t → set (image f m n) j v ≡ image f (set m i t) n
  image-store f m i n at k j v t h ea ej hk e =
      ap (λ (x : List ℕ). set x j v) (image-around f m i n h)
      ∙ set-mid (flat_map f (take i m)) (f (get_or m i z)) (flat_map f (drop (suc i) m) ++ replicate (n - length (flat_map f m)) 0) at k j v (sym ea) ej hk
      ∙ ap (around f m i n) e
      ∙ sym (image-set f m i n t h (ap length (sym e) ∙ length-set (f (get_or m i z)) k v))

  -- a load
  pub image-load : (f : A → List ℕ) (m : List A) (i n at k j : ℕ) → i < length m → at ≡ length (flat_map f (take i m)) → j ≡ at + k
      → k < length (f (get_or m i z)) → get_or (image f m n) j 0 ≡ get_or (f (get_or m i z)) k 0
  image-load f m i n at k j h ea ej hk =
      ap (λ (x : List ℕ). get_or x j 0) (image-around f m i n h)
      ∙ get_or-mid (flat_map f (take i m)) (f (get_or m i z)) (flat_map f (drop (suc i) m) ++ replicate (n - length (flat_map f m)) 0) at k j (sym ea) ej hk

  -- element i closed up
  pub image-closed : (f : A → List ℕ) (m : List A) (i n at k end : ℕ) → i < length m → at ≡ length (flat_map f (take i m))
      → k ≡ length (f (get_or m i z)) → end ≡ length (flat_map f m) → length (flat_map f m) ≤ n → closed (image f m n) at k end ≡ image f (remove m i) n
  unfolding image
  image-closed f m i n at k end h ea ek ee hn =
      let w : ℕ = n - length (flat_map f m) in
      let e : k + w ≡ n - length (flat_map f (remove m i)) = omega (arith, length-flat-remove f m i h) in
      let q : List ℕ = flat_map f (drop (suc i) m) in
      ap (λ (x : List ℕ). closed x at k end) (image-around f m i n h)
      ∙ closed-mid (flat_map f (take i m)) (f (get_or m i z)) q (replicate w 0) at k end (sym ea) (sym ek) (omega (arith, length-flat f m i h))
      ∙ rw (← e, ← replicate-append-replicate {A = ℕ} k w 0, flat-remove f m i) (simp append_assoc)

-- ---- one more

module _ {A : Type 0} where
  image-more : (f : A → List ℕ) (m : List A) (t : A) (n : ℕ)
      → image f (m ++ t ∷ []) n ≡ flat_map f m ++ (f t ++ replicate (n - length (flat_map f m) - length (f t)) 0)
  unfolding image
  image-more f m t n =
      let l : n - length (flat_map f (m ++ t ∷ [])) ≡ n - length (flat_map f m) - length (f t) = omega (arith, length-flat-add f m t) in
      rw (l, flat-add f m t) (append_assoc (flat_map f m) (f t) (replicate (n - length (flat_map f m) - length (f t)) 0))

  -- stored after the last
  pub image-add : (f : A → List ℕ) (m : List A) (t : A) (n at : ℕ) → at ≡ length (flat_map f m) → at + length (f t) ≤ n
      → sets (image f m n) at (f t) ≡ image f (m ++ t ∷ []) n
  unfolding image
  image-add f m t n at e h =
      ap (λ (r : List ℕ). sets (flat_map f m ++ r) at (f t)) (zeros-split (length (f t)) (n - length (flat_map f m)) (omega arith))
      ∙ sets-mid (flat_map f m) (replicate (length (f t)) 0) (replicate (n - length (flat_map f m) - length (f t)) 0) (f t) at (sym e) (length-replicate (length (f t)) 0)
      ∙ sym (image-more f m t n)

  -- zeros after the last are there already
  pub image-zeros : (f : A → List ℕ) (m : List A) (t : A) (n k : ℕ) → f t ≡ replicate k 0 → length (flat_map f m) + k ≤ n
      → image f m n ≡ image f (m ++ t ∷ []) n
  unfolding image
  image-zeros f m t n k e h =
      let l : length (f t) ≡ k = ap length e ∙ length-replicate k 0 in
      ap (λ (r : List ℕ). flat_map f m ++ r) (zeros-split k (n - length (flat_map f m)) (omega arith))
      ∙ sym (rw (l, e) at (image-more f m t n))
