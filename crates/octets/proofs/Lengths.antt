-- The rule for lengths and counts, shown once for every field: what the decoder gives at a position, by the tests that the code makes there, and the round trip.
use Prim.Native.Nat.{ℕ, suc, ◌+◌, ◌-◌, ◌*◌, ◌/◌, ◌%◌, ◌<◌, ◌≤◌}
use mathlib.Core.Path.{◌≡◌, refl}
use mathlib.Core.Bool.{Bool, true, false, cond}
use mathlib.Core.List.{List, [], ◌∷◌, ◌++◌}
use native.Mathlib.Omega.{arith}
use lib.ListN.{length, get_or, drop}
use lib.Dec.{ltb, leb}
use borrow.Author.Tests.{le-ltb, lt-ltb, le-leb, lt-leb, ltb-true, ltb-false, leb-true}
use Rattle.octets.specs.Reading.{bad, ok, Octets}
use Rattle.octets.specs.Length.{encode_length, decode_length, second_octet}
use Rattle.octets.specs.Layout.{field_octets, size}
use Rattle.octets.specs.declared.Fault.TheVariants.{Missing, Longer, High}
use Rattle.octets.proofs.Places.{here, here_end, bad-ok}

pub length_none : (s : List ℕ) (at : ℕ) → length s ≤ at → decode_length (drop at s) ≡ bad Missing
unfolding decode_length
length_none s at h = rw (here_end s at h)

pub length-short : (s : List ℕ) (at : ℕ) → at < length s → get_or s at 0 < 128 → decode_length (drop at s) ≡ ok (get_or s at 0) (drop (at + 1) s)
unfolding decode_length
length-short s at h k = rw (here s at h, lt-ltb _ _ k)

pub length_high : (s : List ℕ) (at : ℕ) → at < length s → 192 ≤ get_or s at 0 → decode_length (drop at s) ≡ bad High
unfolding decode_length
length_high s at h k = let k' : 128 ≤ get_or s at 0 = omega arith in rw (here s at h, le-ltb _ _ k', le-ltb _ _ k)

-- the number that two octets give
abbrev pub two : List ℕ → ℕ → ℕ
two s at = (get_or s at 0 - 128) * 256 + get_or s (at + 1) 0

module _ (s : List ℕ) (at : ℕ) (h : at < length s) (k : 128 ≤ get_or s at 0) (j : get_or s at 0 < 192) where
  -- the second octet is absent
  pub length_cut : length s - at < 2 → decode_length (drop at s) ≡ bad Missing
  unfolding decode_length
  length_cut g =
      let e : length s ≤ at + 1 = omega arith in
      rw (here s at h, le-ltb _ _ k, lt-ltb _ _ j, here_end s (at + 1) e)

  -- two octets are a length if they hold 128 or more
  two-octets : 2 ≤ length s - at → decode_length (drop at s) ≡ cond (leb 128 (two s at)) (ok (two s at) (drop (at + 2) s)) (bad Longer)
  unfolding decode_length
  two-octets e =
      let e' : at + 1 < length s = omega arith in
      let q : at + 1 + 1 ≡ at + 2 = omega arith in
      rw (here s at h, le-ltb _ _ k, lt-ltb _ _ j, here s (at + 1) e', q)

  pub length-long : 2 ≤ length s - at → 128 ≤ two s at → decode_length (drop at s) ≡ ok (two s at) (drop (at + 2) s)
  length-long e g = rw (two-octets e, le-leb _ _ g)

  -- the longer form of a number below 128
  pub length-waste : 2 ≤ length s - at → two s at < 128 → decode_length (drop at s) ≡ bad Longer
  length-waste e g = rw (two-octets e, lt-leb _ _ g)

pub encode-short : (n : ℕ) → n < 128 → encode_length n ≡ n ∷ []
unfolding encode_length
encode-short n h = rw (lt-ltb _ _ h)

pub encode-long : (n : ℕ) → 128 ≤ n → encode_length n ≡ (128 + n / 256) ∷ (n % 256) ∷ []
unfolding encode_length
encode-long n h = rw (le-ltb _ _ h)

-- a length takes one octet or two
pub encode-some : (n : ℕ) → (1 ≤ length (encode_length n)) × (length (encode_length n) ≤ 2)
unfolding encode_length
encode-some n = go (ltb n 128)
  where
    go : (b : Bool) → (1 ≤ length (cond b (n ∷ []) ((128 + n / 256) ∷ (n % 256) ∷ []))) × (length (cond b (n ∷ []) ((128 + n / 256) ∷ (n % 256) ∷ [])) ≤ 2)
    go true = (omega arith, omega arith)
    go false = (omega arith, omega arith)

-- up to 16,383 a length has octets; from there on it has none
pub length-octets-are : (n : ℕ) → n < 16384 → field_octets size n ≡ encode_length n
length-octets-are n h = rw (lt-ltb _ _ h)

pub length-octets-none : (n : ℕ) → 16384 ≤ n → field_octets size n ≡ []
length-octets-none n h = rw (le-ltb _ _ h)

-- ---- the round trip

length-there-go : (n : ℕ) (r : List ℕ) → n < 16384 → (b : Bool) → ltb n 128 ≡ b → decode_length (cond b (n ∷ []) ((128 + n / 256) ∷ (n % 256) ∷ []) ++ r) ≡ ok n r
unfolding decode_length
length-there-go n r h true e = rw e
length-there-go n r h false e =
    let k : 128 ≤ n = ltb-false _ _ e in
    let x : 128 ≤ 128 + n / 256 = omega arith in
    let y : 128 + n / 256 < 192 = omega arith in
    let z : (128 + n / 256 - 128) * 256 + n % 256 ≡ n = omega arith in
    rw (le-ltb _ _ x, lt-ltb _ _ y, z, le-leb _ _ k)

pub length-there : (n : ℕ) (r : List ℕ) → n < 16384 → decode_length (encode_length n ++ r) ≡ ok n r
unfolding encode_length
length-there n r h = length-there-go n r h (ltb n 128) refl

-- two octets that hold a number of 128 or more are its encoding
two_back : (a b n : ℕ) (l r : List ℕ) → 128 ≤ a → a < 192 → b < 256 → (t : Bool) → leb 128 ((a - 128) * 256 + b) ≡ t
    → cond t (ok ((a - 128) * 256 + b) l) (bad Longer) ≡ ok n r → (a ∷ b ∷ l ≡ encode_length n ++ r) × (n < 16384)
unfolding encode_length
two_back a b n l r h k o true e q =
    let g : 128 ≤ (a - 128) * 256 + b = leb-true _ _ e in
    let m : (a - 128) * 256 + b ≡ n = cc in
    let f : l ≡ r = cc in
    let w : 128 ≤ n = omega arith in
    let x : 128 + n / 256 ≡ a = omega arith in
    let y : n % 256 ≡ b = omega arith in
    (rw (le-ltb _ _ w, x, y, f), omega arith)
two_back a b n l r h k o false e q = absurd (bad-ok q)

long-back : (a n : ℕ) (l r : List ℕ) → 128 ≤ a → Octets l → (t : Bool) → ltb a 192 ≡ t → cond t (second_octet a l) (bad High) ≡ ok n r → (a ∷ l ≡ encode_length n ++ r) × (n < 16384)
long-back a n [] r h o true e q = absurd (bad-ok q)
long-back a n (b ∷ l) r h o true e q = two_back a b n l r h (ltb-true _ _ e) (o 0) (leb 128 ((a - 128) * 256 + b)) refl q
long-back a n l r h o false e q = absurd (bad-ok q)

short_back : (a n : ℕ) (l r : List ℕ) → Octets (a ∷ l) → (t : Bool) → ltb a 128 ≡ t → cond t (ok a l) (cond (ltb a 192) (second_octet a l) (bad High)) ≡ ok n r
    → (a ∷ l ≡ encode_length n ++ r) × (n < 16384)
unfolding encode_length
short_back a n l r o true e q =
    let m : a ≡ n = cc in
    let f : l ≡ r = cc in
    let w : n < 128 = omega (arith, ltb-true a 128 e) in
    (rw (lt-ltb _ _ w, m, f), omega arith)
short_back a n l r o false e q = long-back a n l r (ltb-false _ _ e) (λ k. o (suc k)) (ltb a 192) refl q

-- what decodes is an encoding
pub length_back : (l : List ℕ) (n : ℕ) (r : List ℕ) → Octets l → decode_length l ≡ ok n r → (l ≡ encode_length n ++ r) × (n < 16384)
unfolding decode_length
length_back [] n r o e = absurd (bad-ok e)
length_back (a ∷ l) n r o e = short_back a n l r o (ltb a 128) refl e
