-- The law that every field's layout obeys, and that joining layouts keeps: what is written reads back, and only what would be written is read.
use Prim.Native.Nat.{ℕ, zero, suc, ◌<◌, ◌≤◌}
use mathlib.Core.Path.{◌≡◌, refl, sym, ap, ◌∙◌}
use mathlib.Core.Bool.{Bool, true, false, ◌&&◌, cond}
use mathlib.Core.List.{List, [], ◌∷◌, ◌++◌, append_assoc}
use native.Mathlib.Omega.{arith}
use lib.ListN.{length, take, drop, length-append, take-append-drop}
use lib.Seq.{take_at, drop_at, length-take-le}
use lib.Dec.{ltb, leb}
use borrow.Author.Tests.{lt-ltb, le-leb, ltb-true, leb-true}
use Rattle.octets.specs.Reading.{Read, bad, ok, and_then, Octets}
use Rattle.octets.specs.Length.{encode_length, decode_length}
use Rattle.octets.specs.Layout.{Layout, numeral, size, allowed, take_raw, data', seq, via, only, entries, put_all, fit_all, list_of}
use Rattle.octets.specs.declared.Fault.TheVariants.{Other}
use Rattle.octets.proofs.Places.{both, both-are, false-true, bad-ok, ok-val, ok-rest, went, octets-rest}
use Rattle.octets.proofs.Lengths.{length-there, length_back}
use Rattle.octets.proofs.Numbers.{number-there, number-back}

pub record Lawful {A : Type 0} (L : Layout A) : Type 0 where
  pub there : (a : A) (r : List ℕ) → L.fits a ≡ true → L.get (L.put a ++ r) ≡ ok a r
  pub back : (l : List ℕ) (a : A) (r : List ℕ) → Octets l → L.get l ≡ ok a r → (l ≡ L.put a ++ r) × (L.fits a ≡ true)

-- ---- single fields

-- the rule for lengths and counts
pub size-lawful : Lawful size
size-lawful = record {
  there = λ n r h. length-there n r (ltb-true _ _ h);
  back = λ l n r o e. let x = length_back l n r o e in (x.0, lt-ltb _ _ x.1);
}

pub numeral-lawful : (n : ℕ) → Lawful (numeral n)
numeral-lawful n = record {
  there = λ x r h. number-there n x r (ltb-true _ _ h);
  back = λ l x r o e. let y = number-back n l x r o e in (y.0, lt-ltb _ _ y.1);
}

-- octets as they stand, both ways
raw-there : (d r : List ℕ) → take_raw (length d) (d ++ r) ≡ ok d r
raw-there d r =
    let h : length d ≤ length (d ++ r) = simp length-append (omega arith) in
    rw (le-leb _ _ h, take_at d r (length d) refl, drop_at d r (length d) refl)

raw-back : (n : ℕ) (l d r : List ℕ) → take_raw n l ≡ ok d r → (l ≡ d ++ r) × (length d ≡ n)
raw-back n l d r e = go (leb n (length l)) refl e
  where
    go : (b : Bool) → leb n (length l) ≡ b → cond b (ok (take n l) (drop n l)) (bad Other) ≡ ok d r → (l ≡ d ++ r) × (length d ≡ n)
    go true t q =
        let x : take n l ≡ d = cc in
        let y : drop n l ≡ r = cc in
        (rw (← x, ← y) (sym (take-append-drop n l)), rw (← x) (length-take-le n l (leb-true _ _ t)))
    go false t q = absurd (bad-ok q)

pub data-lawful : Lawful data'
data-lawful = record {
  there = λ d r h. rw (append_assoc (encode_length (length d)) d r, length-there (length d) (d ++ r) (ltb-true _ _ h)) (raw-there d r);
  back = λ l d r o e.
      let w = went (decode_length l) take_raw d r e in
      let x = length_back l w.val w.rest o w.first in
      let y = raw-back w.val w.rest d r w.then in
      (rw (y.1, append_assoc (encode_length w.val) d r, ← y.0) x.0, lt-ltb (length d) 16384 (rw y.1 x.1));
}

-- ---- joined fields

module _ {A B : Type 0} (L : Layout A) (M : Layout B) (P : Lawful L) (Q : Lawful M) where
  seq-back : (l t u r : List ℕ) (a : A) (b : B) (p : A × B) → Octets l → L.get l ≡ ok a t → M.get t ≡ ok b u → ◌≡◌ {A = Read (A × B)} (ok (a, b) u) (ok p r)
      → (l ≡ (L.put p.0 ++ M.put p.1) ++ r) × ((L.fits p.0 && M.fits p.1) ≡ true)
  seq-back l t u r a b p o e f g =
      let x = P.back l a t o e in
      let y = Q.back t b u (octets-rest (L.put a) t (rw x.0 at o)) f in
      let q : ◌≡◌ {A = A × B} (a, b) p = ok-val g in
      (rw (← q, ← ok-rest g, append_assoc (L.put a) (M.put b) u, ← y.0) x.0, rw (← q) (both-are _ _ x.1 y.1))

  pub seq-lawful : Lawful (seq L M)
  seq-lawful = record {
    there = λ p r h.
        let k = both (L.fits p.0) (M.fits p.1) h in
        rw (append_assoc (L.put p.0) (M.put p.1) r, P.there p.0 (M.put p.1 ++ r) k.0, Q.there p.1 r k.1);
    back = λ l p r o e.
        let w = went (L.get l) (λ a t. and_then (M.get t) (λ b u. ok (a, b) u)) p r e in
        let v = went (M.get w.rest) (λ b u. ok (w.val, b) u) p r w.then in
        seq-back l w.rest v.rest r w.val v.val p o w.first v.first v.then;
  }

-- values of another type: f and g undo each other where the layout has values
module _ {A B : Type 0} (f : A → B) (g : B → A) (L : Layout A) (k : (a : A) → L.fits a ≡ true → g (f a) ≡ a) (j : (b : B) → L.fits (g b) ≡ true → f (g b) ≡ b) (P : Lawful L) where
  via-back : (l t r : List ℕ) (a : A) (b : B) → Octets l → L.get l ≡ ok a t → ◌≡◌ {A = Read B} (ok (f a) t) (ok b r) → (l ≡ L.put (g b) ++ r) × (L.fits (g b) ≡ true)
  via-back l t r a b o e h =
      let x = P.back l a t o e in
      rw (← ok-val h, k a x.1, ← ok-rest h) x

  pub via-lawful : Lawful (via f g L)
  via-lawful = record {
    there = λ b r h. rw (P.there (g b) r h, j b h);
    back = λ l b r o e.
        let w = went (L.get l) (λ a t. ok (f a) t) b r e in
        via-back l w.rest r w.val b o w.first w.then;
  }

module _ {A : Type 0} (p : A → Bool) (L : Layout A) (P : Lawful L) where
  only-back : (l t r : List ℕ) (a b : A) (x : Bool) → Octets l → L.get l ≡ ok a t → p a ≡ x → cond x (ok a t) (bad Other) ≡ ok b r → (l ≡ L.put b ++ r) × ((L.fits b && p b) ≡ true)
  only-back l t r a b true o e q g = let x = P.back l a t o e in rw (← ok-val g, ← ok-rest g) (x.0, both-are _ _ x.1 q)
  only-back l t r a b false o e q g = absurd (bad-ok g)

  pub only-lawful : Lawful (only p L)
  only-lawful = record {
    there = λ a r h. let k = both (L.fits a) (p a) h in rw (P.there a r k.0, k.1);
    back = λ l b r o e.
        let w = went (L.get l) (λ a t. cond (p a) (ok a t) (bad Other)) b r e in
        only-back l w.rest r w.val b (p w.val) o w.first refl w.then;
  }

-- ---- values under a constructor f

pub record Wrapped {A B : Type 0} (f : A → B) (L : Layout A) (l : List ℕ) (b : B) (r : List ℕ) : Type 0 where
  pub val : A
  pub is : f val ≡ b
  pub octets : l ≡ L.put val ++ r
  pub fit : L.fits val ≡ true

module _ {A B : Type 0} (f : A → B) (L : Layout A) (P : Lawful L) where
  pub wrap-there : (a : A) (r : List ℕ) → L.fits a ≡ true → and_then (L.get (L.put a ++ r)) (λ x t. ok (f x) t) ≡ ok (f a) r
  wrap-there a r h = rw (P.there a r h)

  pub wrap-back : (l : List ℕ) (b : B) (r : List ℕ) → Octets l → and_then (L.get l) (λ x t. ok (f x) t) ≡ ok b r → Wrapped f L l b r
  wrap-back l b r o e =
      let w = went (L.get l) (λ x t. ok (f x) t) b r e in
      let x = P.back l w.val w.rest o w.first in
      record { val = w.val; is = ok-val w.then; octets = x.0 ∙ ap (λ (t : List ℕ). L.put w.val ++ t) (ok-rest w.then); fit = x.1 }

-- a layout that a table lacks has no values
pub allowed-lawful : {A : Type 0} (b : Bool) (L : Layout A) → Lawful L → Lawful (allowed b L)
allowed-lawful true L P = record { there = λ a r h. P.there a r h; back = λ l a r o e. P.back l a r o e }
allowed-lawful false L P = record { there = λ a r h. absurd (false-true h); back = λ l a r o e. absurd (bad-ok e) }

-- ---- lists

module _ {A : Type 0} (L : Layout A) (P : Lawful L) where
  -- entries without their count, both ways
  pub entries-there : (es : List A) (r : List ℕ) → fit_all L es ≡ true → entries L (length es) (put_all L es ++ r) ≡ ok es r
  entries-there [] r h = refl
  entries-there (a ∷ es) r h =
      let k = both (L.fits a) (fit_all L es) h in
      rw (append_assoc (L.put a) (put_all L es) r, P.there a (put_all L es ++ r) k.0, entries-there es r k.1)

  pub entries-back : (n : ℕ) (l : List ℕ) (es : List A) (r : List ℕ) → Octets l → entries L n l ≡ ok es r → (l ≡ put_all L es ++ r) × (fit_all L es ≡ true) × (length es ≡ n)
  entries-back zero l es r o e =
      let q = ok-val e in
      let z = ok-rest e in
      (rw (← q) z, rw (← q), rw (← q))
  entries-back (suc n) l es r o e =
      let w = went (L.get l) (λ a t. and_then (entries L n t) (λ fs u. ok (a ∷ fs) u)) es r e in
      let v = went (entries L n w.rest) (λ fs u. ok (w.val ∷ fs) u) es r w.then in
      let x = P.back l w.val w.rest o w.first in
      let y = entries-back n w.rest v.val v.rest (octets-rest (L.put w.val) w.rest (rw x.0 at o)) v.first in
      more n l w.rest v.rest r w.val v.val es x.0 x.1 y v.then
    where
      more : (n : ℕ) (l t u r : List ℕ) (a : A) (fs es : List A) → l ≡ L.put a ++ t → L.fits a ≡ true → (t ≡ put_all L fs ++ u) × (fit_all L fs ≡ true) × (length fs ≡ n)
          → ok (a ∷ fs) u ≡ ok es r → (l ≡ put_all L es ++ r) × (fit_all L es ≡ true) × (length es ≡ suc n)
      more n l t u r a fs es x h y g =
          rw (← ok-val g, ← ok-rest g) (rw (append_assoc (L.put a) (put_all L fs) u, ← y.0) x, both-are _ _ h y.1, ap suc y.2)

  pub list_lawful : Lawful (list_of L)
  list_lawful = record {
    there = λ es r h.
        let k = both (ltb (length es) 16384) (fit_all L es) h in
        rw (append_assoc (encode_length (length es)) (put_all L es) r, length-there (length es) (put_all L es ++ r) (ltb-true _ _ k.0)) (entries-there es r k.1);
    back = λ l es r o e.
        let w = went (decode_length l) (entries L) es r e in
        let x = length_back l w.val w.rest o w.first in
        let y = entries-back w.val w.rest es r (octets-rest (encode_length w.val) w.rest (rw x.0 at o)) w.then in
        counted l w.rest r w.val es x.0 x.1 y;
  }
    where
      counted : (l t r : List ℕ) (n : ℕ) (es : List A) → l ≡ encode_length n ++ t → n < 16384 → (t ≡ put_all L es ++ r) × (fit_all L es ≡ true) × (length es ≡ n)
          → (l ≡ (encode_length (length es) ++ put_all L es) ++ r) × ((ltb (length es) 16384 && fit_all L es) ≡ true)
      counted l t r n es x h y = rw y.2 (rw (append_assoc (encode_length n) (put_all L es) r, ← y.0) x, both-are _ _ (lt-ltb _ _ h) y.1)
