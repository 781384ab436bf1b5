-- Lists as a caller hands them over: which slices belong together, which lists fit, and how many octets they take.
use Prim.Native.Nat.{ℕ, zero, suc, ◌+◌, ◌-◌, ◌*◌, ◌^◌, ◌<◌, ◌≤◌}
use mathlib.Core.Path.{◌≡◌, refl, ◌∙◌}
use mathlib.Core.Logic.{inl, inr}
use mathlib.Core.Bool.{Bool, true, false}
use mathlib.Core.List.{List, [], ◌∷◌, ◌++◌}
use native.Mathlib.Omega.{arith}
use native.Mathlib.Nat.{not-suc-le-zero}
use native.Mathlib.Numerals.{add-one}
use lib.Dec.{leb}
use lib.ListN.{length, get_or, take, drop, length-drop}
use lib.Seq.{length-take-le}
use borrow.Author.Tests.{leb-true, leb-false, lt-ltb, le-leb, eqb-true, eq-eqb, ne_eqb}
use Rattle.octets.specs.Length.{encode_length}
use Rattle.octets.specs.Layout.{Layout, put_all, fit_all, listed, list_of, every, field_octets}
use Rattle.octets.specs.Area.{Outcome, Laid, Does, described, Wrote}
use Rattle.std.specs.Prelude.{Err, Some, None}
use Rattle.octets.specs.declared.Unwritten.TheVariants.{Refused}
use Rattle.octets.specs.declared.Access.{Access}
use Rattle.octets.specs.declared.Form.{Form}
use Rattle.octets.specs.declared.Form.TheVariants as f
use Rattle.octets.proofs.Places.{both, both-are}
use Rattle.octets.proofs.Lists.{wrote-entry, put_next, put_mono, put-many, put-even, fit-listed}
use Rattle.octets.proofs.Sends.{sent-long, described-not}
use Rattle.tags.specs.Entry.{form_of, lock_size, lock, Keyed, Held, key, memory}
use Rattle.tags.proofs.Entries.{length-key, length-memory, key_fits, memory-fits}
use Rattle.lists.specs.Handed.{agrees, access_at, key_at, keys_of, held_at, held_of, inside_at, belong, keys_sent, memories_sent, Measured}
use Rattle.lists.proofs.Lists.{Ready, list_length}

-- ---- passwords

pub agrees_at : (w : Form) (t p : ℕ) → agrees w t p ≡ true → w ≡ f.Password → p ≡ t
unfolding agrees
agrees_at f.Plain t p h e = let z : ◌≡◌ {A = ℕ} 0 1 = cc in absurd (omega arith)
agrees_at f.Password t p h e = eqb-true p t h

pub form-at : (w : Form) (ps : List ℕ) (i : ℕ) → form_of (access_at w ps i) ≡ w
form-at f.Plain ps i = refl
form-at f.Password ps i = refl

-- every element is a number of eight octets
abbrev pub Words : List ℕ → Type 0
Words l = (k : ℕ) → get_or l k 0 < 256 ^ 8

lock-at : (w : Form) (ps : List ℕ) (i : ℕ) → Words ps → (lock w).fits (access_at w ps i) ≡ true
lock-at f.Plain ps i o = refl
lock-at f.Password ps i o = lt-ltb (get_or ps i 0) (256 ^ 8) (o i)

key-at : (w : Form) (ts ps : List ℕ) (i : ℕ) → Words ts → Words ps → (key w).fits (key_at w ts ps i) ≡ true
key-at w ts ps i o u = key_fits w (get_or ts i 0) (access_at w ps i) (o i) (lock-at w ps i u)

-- ---- entries that all fit, each by itself

module _ {A : Type 0} (L : Layout A) where
  fit-last : (es : List A) (a : A) → fit_all L (es ++ (a ∷ [])) ≡ true → (fit_all L es ≡ true) × (L.fits a ≡ true)
  fit-last [] a h = (refl, (both (L.fits a) true h).0)
  fit-last (e ∷ es) a h =
      let b = both (L.fits e) (fit_all L (es ++ (a ∷ []))) h in
      let r = fit-last es a b.1 in
      (both-are _ _ b.0 r.0, r.1)

  fit-at : (f : ℕ → A) (n i : ℕ) → fit_all L (listed f n) ≡ true → i < n → L.fits (f i) ≡ true
  fit-at f zero i h k = absurd (not-suc-le-zero k)
  fit-at f (suc n) i h k = let b = fit-last (listed f n) (f n) h in go (leb n i) refl b.1 (λ j. fit-at f n i b.0 j)
    where
      go : (t : Bool) → leb n i ≡ t → L.fits (f n) ≡ true → (i < n → L.fits (f i) ≡ true) → L.fits (f i) ≡ true
      go true t b m = let q : i ≡ n = omega (arith, leb-true n i t) in rw q b
      go false t b m = m (leb-false _ _ t)

-- ---- a list of tags

-- a message that would be refused is, whether the slices belong together or not
described-refused : (b : Bool) (o : Outcome × List ℕ) (old : List ℕ) → Does o (Err Refused) old → Does (described b o old) (Err Refused) old
described-refused true o old d = d
described-refused false o old d = record { says = refl; area = refl }

module _ (w : Form) (ts ps : List ℕ) where
  -- one entry more, as the code writes it
  pub wrote-key : (i : ℕ) {k : Access} {old x y : List ℕ} {at p q : ℕ} → k ≡ access_at w ps i → i < length ts → at + length (put_all (key w) (keys_of w ts ps)) ≤ length old
      → Wrote old at (put_all (key w) (listed (key_at w ts ps) i)) x p → Laid x p ((key (form_of k)).put (get_or ts i 0, k)) y q
      → Wrote old at (put_all (key w) (listed (key_at w ts ps) (i + 1))) y q
  wrote-key i e h r v l = wrote-entry (key w) (key_at w ts ps) (length ts) i h r v (rw (e, form-at w ps i) at l)

  pub keys-ready : {a b : ℕ} → agrees w (length ts) (length ps) ≡ true → length ts < 16384 → Words ts → Words ps → a ≡ length (encode_length (length ts)) → b ≡ lock_size w
      → Ready (key w) (key_at w ts ps) (length ts) (agrees w (length ts) (length ps)) (a + length ts * (8 + b))
  keys-ready t h o u e f = record {
    whole = t;
    few = h;
    fit = fit-listed (key w) (key_at w ts ps) (length ts) (λ i k. key-at w ts ps i o u);
    long = rw (e, f, list_length (key w) (key_at w ts ps) (length ts), put-even (key w) (key_at w ts ps) (8 + lock_size w) (length-key w) (length ts));
  }

  key-some : (a : Keyed) → 1 ≤ length ((key w).put a)
  key-some a = omega (arith, length-key w a)

  module _ (v k : ℕ) (old : List ℕ) where
    pub keys-apart : agrees w (length ts) (length ps) ≡ false → Does (keys_sent w v k ts ps old) (Err Refused) old
    unfolding keys_sent
    keys-apart e = described-not _ _ old e

    pub keys-many : 2048 < length ts → Does (keys_sent w v k ts ps old) (Err Refused) old
    unfolding keys_sent
    keys-many h =
        let m = put-many (key w) (key_at w ts ps) key-some (length ts) in
        described-refused (agrees w (length ts) (length ps)) _ old (sent-long (list_of (key w)) v k (keys_of w ts ps) old (omega (arith, list_length (key w) (key_at w ts ps) (length ts))))

-- ---- a list of memory data

-- a test at one place more
every-next : (p : ℕ → Bool) (i : ℕ) → every p i ≡ true → p i ≡ true → every p (i + 1) ≡ true
every-next p i h k = rw (add-one i) (both-are _ _ h k)

module _ (w : Form) (ts ps ss ls s : List ℕ) where
  -- the part of entry i lies within the octets, as the code tests it
  module _ (i : ℕ) (h : get_or ss i 0 ≤ length s) (k : get_or ls i 0 ≤ length s - get_or ss i 0) where
    pub inside-next : every (inside_at ss ls s) i ≡ true → every (inside_at ss ls s) (i + 1) ≡ true
    inside-next e = every-next (inside_at ss ls s) i e (le-leb (get_or ss i 0 + get_or ls i 0) (length s) (omega arith))

    -- the list's size with that entry, as the code adds it up
    pub measured-next : {z a b : ℕ} → z ≡ length (put_all (memory w) (listed (held_at w ts ps ss ls s) i)) → a ≡ lock_size w → b ≡ length (encode_length (get_or ls i 0))
        → z + (8 + a + b + get_or ls i 0) ≡ length (put_all (memory w) (listed (held_at w ts ps ss ls s) (i + 1)))
    measured-next {z} {a} {b} e f g =
        let d : length (take (get_or ls i 0) (drop (get_or ss i 0) s)) ≡ get_or ls i 0 = length-take-le _ _ (rw length-drop k) in
        let m : length ((memory w).put (held_at w ts ps ss ls s i)) ≡ 8 + lock_size w + length (encode_length (get_or ls i 0)) + get_or ls i 0 = length-memory w (held_at w ts ps ss ls s i) ∙ rw d in
        omega (arith, put_next (memory w) (held_at w ts ps ss ls s) i)

  pub measured-over : (i : ℕ) → i < length ts → 2048 < length (put_all (memory w) (listed (held_at w ts ps ss ls s) (i + 1))) → 2048 < length (put_all (memory w) (held_of w ts ps ss ls s))
  measured-over i h k = omega (arith, put_mono (memory w) (held_at w ts ps ss ls s) (i + 1) (length ts) (omega arith))

  held-some : (a : Held) → 1 ≤ length ((memory w).put a)
  held-some a = omega (arith, length-memory w a)

  module _ (o : Words ts) (u : Words ps) (r : length (put_all (memory w) (held_of w ts ps ss ls s)) ≤ 2048) where
    held_fits : (i : ℕ) → i < length ts → (memory w).fits (held_at w ts ps ss ls s i) ≡ true
    held_fits i h =
        let m = put_mono (memory w) (held_at w ts ps ss ls s) (i + 1) (length ts) (omega arith) in
        let n = put_next (memory w) (held_at w ts ps ss ls s) i in
        memory-fits w (key_at w ts ps i) (take (get_or ls i 0) (drop (get_or ss i 0) s)) (key-at w ts ps i o u) (omega (arith, length-memory w (held_at w ts ps ss ls s i)))

  -- one entry more, as the code writes it
  pub wrote-memory : fit_all (memory w) (held_of w ts ps ss ls s) ≡ true → (i : ℕ) {k : Access} {d old x y : List ℕ} {at p q : ℕ} → k ≡ access_at w ps i → d ≡ take (get_or ls i 0) (drop (get_or ss i 0) s) → i < length ts
      → at + length (put_all (memory w) (held_of w ts ps ss ls s)) ≤ length old → Wrote old at (put_all (memory w) (listed (held_at w ts ps ss ls s) i)) x p
      → Laid x p (field_octets (memory (form_of k)) ((get_or ts i 0, k), d)) y q → Wrote old at (put_all (memory w) (listed (held_at w ts ps ss ls s) (i + 1))) y q
  wrote-memory g i e f h j v l = wrote-entry (memory w) (held_at w ts ps ss ls s) (length ts) i h j v (rw (e, f, form-at w ps i, fit-at (memory w) (held_at w ts ps ss ls s) (length ts) i g h) at l)

  module _ (t : agrees w (length ts) (length ps) ≡ true) (e : length ss ≡ length ts) (f : length ls ≡ length ts) where
    together : (b : Bool) → every (inside_at ss ls s) (length ts) ≡ b → belong w ts ps ss ls s ≡ b
    unfolding belong
    together b g = rw (t, eq-eqb _ _ e, eq-eqb _ _ f, g)

    pub memories-ready : {a b : ℕ} → Words ts → Words ps → a ≡ length (encode_length (length ts)) → Measured w ts ps ss ls s (length ts) (Some b)
        → Ready (memory w) (held_at w ts ps ss ls s) (length ts) (belong w ts ps ss ls s) (a + b)
    memories-ready o u x z =
        let r : length (put_all (memory w) (held_of w ts ps ss ls s)) ≤ 2048 = rw (← z.2) z.1 in
        record {
          whole = together true z.0;
          few = omega (arith, put-many (memory w) (held_at w ts ps ss ls s) held-some (length ts));
          fit = fit-listed (memory w) (held_at w ts ps ss ls s) (length ts) (held_fits o u r);
          long = rw (x, z.2, list_length (memory w) (held_at w ts ps ss ls s) (length ts));
        }

    pub unmeasured : (v k : ℕ) (old : List ℕ) → Measured w ts ps ss ls s (length ts) None → Does (memories_sent w v k ts ps ss ls s old) (Err Refused) old
    unfolding memories_sent
    unmeasured v k old (inl g) = described-not _ _ old (together false g)
    unmeasured v k old (inr g) = described-refused (belong w ts ps ss ls s) _ old (sent-long (list_of (memory w)) v k (held_of w ts ps ss ls s) old (omega (arith, list_length (memory w) (held_at w ts ps ss ls s) (length ts))))

  -- slices that do not belong together
  pub starts_apart : agrees w (length ts) (length ps) ≡ true → (length ss ≡ length ts → ⊥) → belong w ts ps ss ls s ≡ false
  unfolding belong
  starts_apart t e = rw (t, ne_eqb _ _ e)

  pub lengths-apart : agrees w (length ts) (length ps) ≡ true → length ss ≡ length ts → (length ls ≡ length ts → ⊥) → belong w ts ps ss ls s ≡ false
  unfolding belong
  lengths-apart t e f = rw (t, eq-eqb _ _ e, ne_eqb _ _ f)

  pub passwords-apart : agrees w (length ts) (length ps) ≡ false → belong w ts ps ss ls s ≡ false
  unfolding belong
  passwords-apart e = rw e

  pub memories-apart : belong w ts ps ss ls s ≡ false → (v k : ℕ) (old : List ℕ) → Does (memories_sent w v k ts ps ss ls s old) (Err Refused) old
  unfolding memories_sent
  memories-apart e v k old = described-not _ _ old e
