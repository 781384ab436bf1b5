-- Lists given by the entry at each place: their octets, their fields and tests over all their places; and the step of a loop that writes them.
use Prim.Native.Nat.{ℕ, zero, suc, ◌+◌, ◌*◌, ◌<◌, ◌≤◌}
use mathlib.Core.Path.{◌≡◌, refl, sym, ◌∙◌}
use mathlib.Core.Bool.{Bool, true, false, ◌&&◌}
use mathlib.Core.List.{List, [], ◌∷◌, ◌++◌, append_assoc, append-nil}
use native.Mathlib.Omega.{arith}
use native.Mathlib.Nat.{not-suc-le-zero, zero-mul, suc-mul}
use native.Mathlib.Numerals.{add-one}
use lib.ListN.{length, length-append}
use lib.Dec.{leb}
use borrow.Author.Tests.{leb-true, leb-false}
use Rattle.octets.specs.Layout.{Layout, put_all, fit_all, listed, every}
use Rattle.octets.specs.Area.{Laid, Wrote}
use Rattle.octets.proofs.Places.{both, both-are}
use Rattle.octets.proofs.Areas.{wrote-more}

module _ {A : Type 0} where
  pub length-listed : (f : ℕ → A) (n : ℕ) → length (listed f n) ≡ n
  length-listed f zero = refl
  length-listed f (suc n) = rw (length-append (listed f n) (f n ∷ []), length-listed f n) (add-one n)

module _ {A : Type 0} (L : Layout A) where
  -- one entry more at the end
  pub put-snoc : (es : List A) (a : A) → put_all L (es ++ (a ∷ [])) ≡ put_all L es ++ L.put a
  put-snoc [] a = append-nil (L.put a)
  put-snoc (e ∷ es) a = rw (put-snoc es a) (sym (append_assoc (L.put e) (put_all L es) (L.put a)))

  fit-snoc : (es : List A) (a : A) → fit_all L es ≡ true → L.fits a ≡ true → fit_all L (es ++ (a ∷ [])) ≡ true
  fit-snoc [] a h k = rw k
  fit-snoc (e ∷ es) a h k = let b = both (L.fits e) (fit_all L es) h in both-are _ _ b.0 (fit-snoc es a b.1 k)

  module _ (f : ℕ → A) where
    -- and the octets that it adds
    length-put : (n : ℕ) → length (put_all L (listed f (suc n))) ≡ length (put_all L (listed f n)) + length (L.put (f n))
    length-put n = rw (put-snoc (listed f n) (f n)) (length-append (put_all L (listed f n)) (L.put (f n)))

    pub put_next : (i : ℕ) → length (put_all L (listed f (i + 1))) ≡ length (put_all L (listed f i)) + length (L.put (f i))
    put_next i = rw (add-one i) (length-put i)

    -- the first entries take no more octets than all
    pub put_mono : (i n : ℕ) → i ≤ n → length (put_all L (listed f i)) ≤ length (put_all L (listed f n))
    put_mono i zero h = let e : i ≡ 0 = omega arith in rw e (omega arith)
    put_mono i (suc n) h = go (leb i n) refl (λ k. put_mono i n k)
      where
        go : (b : Bool) → leb i n ≡ b → (i ≤ n → length (put_all L (listed f i)) ≤ length (put_all L (listed f n))) → length (put_all L (listed f i)) ≤ length (put_all L (listed f (suc n)))
        go true t m = omega (arith, m (leb-true _ _ t), length-put n)
        go false t m = let e : i ≡ suc n = omega (arith, leb-false i n t) in rw e (omega arith)

    -- entries of at least one octet take as many octets as there are entries
    pub put-many : ((a : A) → 1 ≤ length (L.put a)) → (n : ℕ) → n ≤ length (put_all L (listed f n))
    put-many h zero = omega arith
    put-many h (suc n) = omega (arith, put-many h n, length-put n, h (f n))

    -- entries that all take k octets
    pub put-even : (k : ℕ) → ((a : A) → length (L.put a) ≡ k) → (n : ℕ) → length (put_all L (listed f n)) ≡ n * k
    put-even k h zero = sym (zero-mul k)
    put-even k h (suc n) = length-put n ∙ rw (put-even k h n, h (f n)) (sym (suc-mul n k))

    -- entries that all fit
    pub fit-listed : (n : ℕ) → ((i : ℕ) → i < n → L.fits (f i) ≡ true) → fit_all L (listed f n) ≡ true
    fit-listed zero h = refl
    fit-listed (suc n) h = fit-snoc (listed f n) (f n) (fit-listed n (λ i k. h i (omega arith))) (h n (omega arith))

    -- one entry more, as a loop writes it
    pub wrote-entry : (n i : ℕ) {old x y : List ℕ} {at p q : ℕ} → i < n → at + length (put_all L (listed f n)) ≤ length old
        → Wrote old at (put_all L (listed f i)) x p → Laid x p (L.put (f i)) y q → Wrote old at (put_all L (listed f (i + 1))) y q
    wrote-entry n i {old} {x} {y} {at} {p} {q} h r w l =
        let m = put_mono (i + 1) n (omega arith) in
        rw (add-one i, put-snoc (listed f i) (f i)) (wrote-more (L.put (f i)) w (omega (arith, m, put_next i)) l)

-- ---- tests over all places

-- a test that holds at each place holds over all, and the other way round
pub every-is : (p : ℕ → Bool) (n : ℕ) → ((i : ℕ) → i < n → p i ≡ true) → every p n ≡ true
every-is p zero h = refl
every-is p (suc n) h = both-are _ _ (every-is p n (λ i k. h i (omega arith))) (h n (omega arith))

pub every-at : (p : ℕ → Bool) (n i : ℕ) → every p n ≡ true → i < n → p i ≡ true
every-at p zero i e h = absurd (not-suc-le-zero h)
every-at p (suc n) i e h = let b = both (every p n) (p n) e in go (leb n i) refl b.1 (λ k. every-at p n i b.0 k)
  where
    go : (t : Bool) → leb n i ≡ t → p n ≡ true → (i < n → p i ≡ true) → p i ≡ true
    go true t b m = let q : i ≡ n = omega (arith, leb-true n i t) in rw q b
    go false t b m = m (leb-false _ _ t)

-- one place where it fails is enough
pub every-not : (p : ℕ → Bool) (n i : ℕ) → i < n → p i ≡ false → every p n ≡ false
every-not p zero i h e = absurd (not-suc-le-zero h)
every-not p (suc n) i h e = go (leb n i) refl (λ k. every-not p n i k e)
  where
    last : (b : Bool) → (b && false) ≡ false
    last true = refl
    last false = refl

    go : (t : Bool) → leb n i ≡ t → (i < n → every p n ≡ false) → (every p n && p n) ≡ false
    go true t m = let q : n ≡ i = omega (arith, leb-true n i t) in rw (q, e) (last (every p i))
    go false t m = rw (m (leb-false _ _ t))
