-- Laws of numbers of a fixed count of octets, over the count; of a run of stores; of masks.
use Prim.Native.Nat.{ℕ, zero, suc, ◌+◌, ◌-◌, ◌*◌, ◌/◌, ◌%◌, ◌^◌, ◌<◌, ◌≤◌}
use mathlib.Core.Path.{◌≡◌, refl, sym, ap, ◌∙◌}
use mathlib.Core.Bool.{Bool, true, false, cond}
use mathlib.Core.List.{List, [], ◌∷◌, ◌++◌, append_assoc, append-nil, reverse, reverse-cons, reverse-reverse}
use native.Mathlib.Omega.{arith}
use native.Mathlib.Nat.{not-suc-le-zero, le_of_suc-le-suc, pow-suc, mul_assoc, mul_comm, add-zero, mul-add-div_right, lt_of_lt_of_le, mod-eq_of_lt, div-div-eq-div-mul}
use native.Mathlib.Numerals.{add-one}
use lib.ListN.{replicate, length, get_or, set, take, drop, length-reverse, length-append, length-take, length-drop, take-append-drop, drop_of_length-le}
use Rattle.std.proofs.lemmas.List.{take-replicate}
use borrow.Rule.Slice.PartMut.{put_mid}
use lib.Seq.{sets-eq, take-suc, drop-cons, sets, length-take-le, take_all, get_or-drop, drop-drop, take_at, drop_at}
use lib.Arith.{digits_lt, digits_div, mod-mul}
use lib.Dec.{lit<, leb}
use borrow.Author.Tests.{le-leb, lt-leb, leb-true}
use lib.Pow.{pow-add, split}
use lib.Bits.{bit_and, and_mask, and_block}
use Rattle.octets.specs.Reading.{bad, ok, Octets}
use Rattle.octets.specs.Number.{number, octets, decode_number, bare}
use Rattle.octets.specs.declared.Fault.TheVariants.{Other}
use Rattle.octets.proofs.Places.{bad-ok, octets-drop, octets-take}

-- ---- powers of 256

pub pow256-suc : (n : ℕ) → 256 ^ suc n ≡ 256 ^ n * 256
pow256-suc n = pow-suc 256 n

pub pow256-pos : (n : ℕ) → 0 < 256 ^ n
pow256-pos zero = omega arith
pow256-pos (suc n) = rw (pow256-suc n) (omega (arith, pow256-pos n))

pub pow256-mono : (i j : ℕ) → i ≤ j → 256 ^ i ≤ 256 ^ j
pow256-mono zero j h = pow256-pos j
pow256-mono (suc i) zero h = absurd (not-suc-le-zero h)
pow256-mono (suc i) (suc j) h = rw (pow256-suc i, pow256-suc j) (omega (arith, pow256-mono i j (le_of_suc-le-suc h)))

-- a shift by whole octets
pub pow-octets : (k : ℕ) → 2 ^ (8 * k) ≡ 256 ^ k
pow-octets zero = refl
pow-octets (suc k) =
    let e : 8 * suc k ≡ 8 * k + 8 = omega arith in
    rw (e, pow-add 2 (8 * k) 8, pow-octets k, pow256-suc k)

-- ---- the number of some octets

-- one octet more at the end
pub number-snoc : (l : List ℕ) (b : ℕ) → number (l ++ (b ∷ [])) ≡ number l * 256 + b
unfolding number
number-snoc [] b = omega arith
number-snoc (a ∷ l) b =
    let e : length (l ++ (b ∷ [])) ≡ suc (length l) = length-append l (b ∷ []) ∙ add-one (length l) in
    rw (e, pow256-suc, number-snoc l b) (omega (arith, mul_assoc a (256 ^ length l) 256))

-- octets stand for a number below 256 to their count
pub number_lt : (l : List ℕ) → Octets l → number l < 256 ^ length l
unfolding number
number_lt [] o = omega arith
number_lt (a ∷ l) o = rw (pow256-suc, mul_comm (256 ^ length l) 256) (digits_lt (o 0) (number_lt l (λ k. o (suc k))))

-- one octet more, as a loop reads it
pub number_step : (s : List ℕ) (at i : ℕ) → at + i < length s → number (take (i + 1) (drop at s)) ≡ number (take i (drop at s)) * 256 + get_or s (at + i) 0
number_step s at i h =
    let k : i < length (drop at s) = simp length-drop (omega arith) in
    rw (add-one i, take-suc (drop at s) i 0 k, number-snoc, get_or-drop)

-- seven octets or fewer leave room for one more
pub number_small : (s : List ℕ) (at i : ℕ) → Octets s → i ≤ 7 → number (take i (drop at s)) < 256 ^ 7
number_small s at i o h =
    let t : List ℕ = take i (drop at s) in
    let e : length t ≤ 7 = rw length-take (omega arith) in
    lt_of_lt_of_le (number_lt t (octets-take i (drop at s) (octets-drop at s o))) (pow256-mono (length t) 7 e)

-- ---- the octets of a number

pub length-octets : (n x : ℕ) → length (octets n x) ≡ n
unfolding octets
length-octets zero x = refl
length-octets (suc n) x = ap suc (length-octets n x)

-- the octet at a place, as a shift gives it
pub octets-at : (n x i : ℕ) → i < n → get_or (octets n x) i 0 ≡ x / 256 ^ (n - 1 - i) % 256
unfolding octets
octets-at zero x i h = absurd (not-suc-le-zero h)
octets-at (suc n) x zero h = let e : suc n - 1 - 0 ≡ n = omega arith in rw e
octets-at (suc n) x (suc i) h = let e : suc n - 1 - suc i ≡ n - 1 - i = omega arith in rw e (octets-at n x i (le_of_suc-le-suc h))

-- the octets of a number, and the number of octets: each undoes the other within the field
pub number-octets : (n x : ℕ) → number (octets n x) ≡ x % 256 ^ n
unfolding number octets
number-octets zero x = omega arith
number-octets (suc n) x = rw (length-octets n x, number-octets n x, pow256-suc n, mul_comm (256 ^ n) 256) (sym (mod-mul x (lit< tt) (pow256-pos n)))

-- what stands above the n octets does not show
octets-above : (n y x : ℕ) → octets n (y * 256 ^ n + x) ≡ octets n x
unfolding octets
octets-above zero y x = refl
octets-above (suc n) y x =
    let e : y * 256 ^ suc n ≡ y * 256 * 256 ^ n = rw (pow256-suc n, mul_comm (256 ^ n) 256) (sym (mul_assoc y 256 (256 ^ n))) in
    let h : (y * 256 * 256 ^ n + x) / 256 ^ n ≡ y * 256 + x / 256 ^ n = mul-add-div_right (pow256-pos n) (y * 256) x in
    let m : (y * 256 + x / 256 ^ n) % 256 ≡ x / 256 ^ n % 256 = omega arith in
    rw (e, h, m, octets-above n (y * 256) x)

pub octets-number : (l : List ℕ) → Octets l → octets (length l) (number l) ≡ l
unfolding number octets
octets-number [] o = refl
octets-number (a ∷ l) o =
    let r : Octets l = λ k. o (suc k) in
    let d : (a * 256 ^ length l + number l) / 256 ^ length l ≡ a = digits_div a (number_lt l r) in
    let m : a % 256 ≡ a = omega (arith, o 0) in
    rw (d, m, octets-above (length l) a (number l), octets-number l r)

-- the low octets are the last
pub octets-last : (k n x : ℕ) → drop k (octets (k + n) x) ≡ octets n x
unfolding octets
octets-last zero n x = let e : 0 + n ≡ n = omega arith in rw e
octets-last (suc k) n x = let e : suc k + n ≡ suc (k + n) = omega arith in rw e (octets-last k n x)

-- the octets of a number that eight hold
pub octets-eight : (x : ℕ) → octets 8 x ≡ (x / 0x100_0000_0000_0000 % 256) ∷ (x / 0x1_0000_0000_0000 % 256) ∷ (x / 0x100_0000_0000 % 256) ∷ (x / 0x1_0000_0000 % 256) ∷ (x / 0x100_0000 % 256) ∷ (x / 0x1_0000 % 256) ∷ (x / 0x100 % 256) ∷ (x % 256) ∷ []
unfolding octets
octets-eight x = let e : x / 1 ≡ x = omega arith in rw e

-- eight octets, each by its worth
pub number-worth : (s : List ℕ) → length s ≡ 8
    → number s ≡ get_or s 0 0 * 0x100_0000_0000_0000 + get_or s 1 0 * 0x1_0000_0000_0000 + get_or s 2 0 * 0x100_0000_0000 + get_or s 3 0 * 0x1_0000_0000 + get_or s 4 0 * 0x100_0000 + get_or s 5 0 * 0x1_0000 + get_or s 6 0 * 0x100 + get_or s 7 0
unfolding number
number-worth s h =
    let z : number (take 0 s) ≡ 0 = refl in
    let e : number s ≡ number (take 8 s) = ap number (sym (take_all 8 s (omega arith))) in
    omega (
      arith,
      e,
      z,
      number_step s 0 0 (omega arith),
      number_step s 0 1 (omega arith),
      number_step s 0 2 (omega arith),
      number_step s 0 3 (omega arith),
      number_step s 0 4 (omega arith),
      number_step s 0 5 (omega arith),
      number_step s 0 6 (omega arith),
      number_step s 0 7 (omega arith),
    )

-- ---- the octets of a number in the other order: eight octets may be read as one word so, and turned

abbrev pub turn : ℕ → ℕ → ℕ
turn n x = number (reverse (octets n x))

-- one octet more, as a loop turns it
pub turn_step : (n x : ℕ) → turn (suc n) x ≡ turn n x * 256 + x / 256 ^ n % 256
unfolding octets
turn_step n x = rw (reverse-cons, number-snoc)

-- it is below 256 to their count
turn-lt : (n x : ℕ) → turn n x < 256 ^ n
unfolding octets number
turn-lt zero x = omega arith
turn-lt (suc n) x = rw (turn_step n x, pow256-suc n) (omega (arith, turn-lt n x))

-- seven octets or fewer leave room for one more
pub turn_small : (n x : ℕ) → n ≤ 7 → turn n x < 256 ^ 7
turn_small n x h = lt_of_lt_of_le (turn-lt n x) (pow256-mono n 7 h)

-- what is left of a number behind one octet more
pub rest-step : (n x : ℕ) → x / 256 ^ n / 256 ≡ x / 256 ^ suc n
rest-step n x = rw (pow256-suc n) (div-div-eq-div-mul x (256 ^ n) 256)

-- octets in the other order are octets
octets-snoc : (l : List ℕ) (b : ℕ) → Octets l → b < 256 → Octets (l ++ (b ∷ []))
octets-snoc [] b o h zero = h
octets-snoc [] b o h (suc k) = lit< tt
octets-snoc (a ∷ l) b o h zero = o 0
octets-snoc (a ∷ l) b o h (suc k) = octets-snoc l b (λ j. o (suc j)) h k

octets-reverse : (l : List ℕ) → Octets l → Octets (reverse l)
octets-reverse [] o = o
octets-reverse (a ∷ l) o = rw (reverse-cons a l) (octets-snoc (reverse l) a (octets-reverse l (λ k. o (suc k))) (o 0))

-- eight octets, turned twice
pub turned-back : (l : List ℕ) → Octets l → length l ≡ 8 → turn 8 (number (reverse l)) ≡ number l
turned-back l o e =
    let n : length (reverse l) ≡ 8 = length-reverse l ∙ e in
    let k : octets 8 (number (reverse l)) ≡ reverse l = rw n at (octets-number (reverse l) (octets-reverse l o)) in
    rw (k, reverse-reverse l)

-- one octet more before those that are summed the last first
number-before : (s : List ℕ) (at next i : ℕ) → next ≡ suc at → at < length s → number (reverse (take (suc i) (drop at s))) ≡ number (reverse (take i (drop next s))) * 256 + get_or s at 0
number-before s at next i e h = rw (e, drop-cons s at 0 h, reverse-cons, number-snoc)

-- eight octets summed the last first
pub number-eight : (s : List ℕ) (at : ℕ) → at + 8 ≤ length s
    → number (reverse (take 8 (drop at s))) ≡ ((((((get_or s (at + 7) 0 * 256 + get_or s (at + 6) 0) * 256 + get_or s (at + 5) 0) * 256 + get_or s (at + 4) 0) * 256 + get_or s (at + 3) 0) * 256 + get_or s (at + 2) 0) * 256 + get_or s (at + 1) 0) * 256 + get_or s at 0
unfolding number
number-eight s at h =
    rw (
      number-before s at (at + 1) 7 (omega arith) (omega arith),
      number-before s (at + 1) (at + 2) 6 (omega arith) (omega arith),
      number-before s (at + 2) (at + 3) 5 (omega arith) (omega arith),
      number-before s (at + 3) (at + 4) 4 (omega arith) (omega arith),
      number-before s (at + 4) (at + 5) 3 (omega arith) (omega arith),
      number-before s (at + 5) (at + 6) 2 (omega arith) (omega arith),
      number-before s (at + 6) (at + 7) 1 (omega arith) (omega arith),
      number-before s (at + 7) (at + 8) 0 (omega arith) (omega arith),
    )
    (omega arith)

-- the last octet of a turned number is the first that is not stored yet, and the others are those behind it
pub turn_last : (n x i : ℕ) → i < n → turn (n - i) x % 256 ≡ get_or (octets n x) i 0
turn_last n x i h =
    let e : n - i ≡ suc (n - 1 - i) = omega arith in
    rw (octets-at n x i h, e, turn_step (n - 1 - i) x) (omega arith)

pub turn-rest : (n x i : ℕ) → i < n → turn (n - i) x / 256 ≡ turn (n - (i + 1)) x
turn-rest n x i h =
    let e : n - i ≡ suc (n - (i + 1)) = omega arith in
    rw (e, turn_step (n - (i + 1)) x) (omega arith)

-- ---- a run of stores

-- one run behind another
pub sets-append : (u v l : List ℕ) (at : ℕ) → sets l at (u ++ v) ≡ sets (sets l at u) (at + length u) v
sets-append [] v l at = rw (add-zero at)
sets-append (a ∷ u) v l at = let e : at + suc (length u) ≡ suc at + length u = omega arith in rw e (sets-append u v (set l at a) (suc at))

-- one store more, as a loop writes it
pub sets-step : (l v : List ℕ) (at i : ℕ) → i < length v → set (sets l at (take i v)) (at + i) (get_or v i 0) ≡ sets l at (take (i + 1) v)
sets-step l v at i h =
    let e : length (take i v) ≡ i = length-take-le i v (omega arith) in
    rw (add-one i, take-suc v i 0 h, sets-append, e)

-- octets stored at once in the place of as many
pub stored-at-once : (l v y : List ℕ) (at k : ℕ) → y ≡ v → k ≡ length v → at + k ≤ length l → put_mid at k l y ≡ sets l at v
stored-at-once l v y at k e q h =
    let g : at + length v ≤ length l = omega arith in
    rw (e, q, sets-eq v l at g, drop-drop (length v) at l) (sym (append_assoc (take at l) v (drop (at + length v) l)))

-- zeros before the octets of a number
number-zeros : (k : ℕ) (s : List ℕ) → number (replicate k 0 ++ s) ≡ number s
unfolding number
number-zeros zero s = refl
number-zeros (suc k) s = rw (number-zeros k s) (omega arith)

-- the octets of a number at the end of eight zeros
pub at-end-of-zeros : (s : List ℕ) → length s ≤ 8 → number (put_mid (8 - length s) (8 - (8 - length s)) (replicate 8 0) s) ≡ number s
at-end-of-zeros s h =
    let n = length s in
    let z : List ℕ = replicate 8 0 in
    let t : take (8 - n) z ≡ replicate (8 - n) 0 = take-replicate (8 - n) 8 0 (omega arith) in
    let d : drop (8 - (8 - n)) (drop (8 - n) z) ≡ [] = drop_of_length-le (drop (8 - n) z) (rw length-drop (omega arith)) in
    rw (t, d, append-nil s) (number-zeros (8 - n) s)

-- ---- masks

-- the mask of bare_tag clears the six ignored bits and no others
pub bare-mask : (t : ℕ) → t < 2 ^ 64 → bit_and t 0xc0ff_ffff_ffff_ffff ≡ bare t
unfolding bare
bare-mask t h =
    ap (λ (x : ℕ). bit_and x 0xc0ff_ffff_ffff_ffff) (sym (split t 62))
    ∙ and_block 62 (t / 2 ^ 62) 3 (t % 2 ^ 62) (2 ^ 56 - 1) (omega arith) (omega arith)
    ∙ ap (λ (x : ℕ). x * 2 ^ 62 + bit_and (t % 2 ^ 62) (2 ^ 56 - 1)) (and_mask (t / 2 ^ 62) 2)
    ∙ ap (λ (x : ℕ). t / 2 ^ 62 % 2 ^ 2 * 2 ^ 62 + x) (and_mask (t % 2 ^ 62) 56)
    ∙ omega arith

-- the octet that a shift and a mask take out
pub octet-shift : (n x i : ℕ) → i < n → bit_and (x / 2 ^ (8 * (n - 1 - i))) 255 ≡ get_or (octets n x) i 0
octet-shift n x i h = rw (octets-at n x i h, ← pow-octets (n - 1 - i)) (and_mask (x / 2 ^ (8 * (n - 1 - i))) 8)

-- ---- a number at a position

pub number_short : (s : List ℕ) (at n : ℕ) → length s - at < n → decode_number n (drop at s) ≡ bad Other
unfolding decode_number
number_short s at n h = rw (length-drop at s, lt-leb _ _ h)

pub number_fits : (s : List ℕ) (at n : ℕ) → n ≤ length s - at → decode_number n (drop at s) ≡ ok (number (take n (drop at s))) (drop (at + n) s)
unfolding decode_number
number_fits s at n h = rw (length-drop at s, le-leb _ _ h, drop-drop n at s)

-- the number of n octets is below 256 ^ n
pub number-below : (s : List ℕ) (at n : ℕ) → Octets s → n ≤ length s - at → number (take n (drop at s)) < 256 ^ n
number-below s at n o h =
    let e : length (take n (drop at s)) ≡ n = length-take-le n (drop at s) (rw length-drop h) in
    rw e at (number_lt (take n (drop at s)) (octets-take n (drop at s) (octets-drop at s o)))

-- ---- the round trip

-- what is written reads back
pub number-there : (n x : ℕ) (r : List ℕ) → x < 256 ^ n → decode_number n (octets n x ++ r) ≡ ok x r
unfolding decode_number
number-there n x r h =
    let e : length (octets n x) ≡ n = length-octets n x in
    let k : n ≤ length (octets n x ++ r) = simp (length-append, e) (omega arith) in
    rw (le-leb _ _ k, take_at (octets n x) r n e, drop_at (octets n x) r n e, number-octets n x, mod-eq_of_lt h)

-- and only what would be written is read
pub number-back : (n : ℕ) (l : List ℕ) (x : ℕ) (r : List ℕ) → Octets l → decode_number n l ≡ ok x r → (l ≡ octets n x ++ r) × (x < 256 ^ n)
unfolding decode_number
number-back n l x r o e = go (leb n (length l)) refl e
  where
    go : (b : Bool) → leb n (length l) ≡ b → cond b (ok (number (take n l)) (drop n l)) (bad Other) ≡ ok x r → (l ≡ octets n x ++ r) × (x < 256 ^ n)
    go true t q =
        let p : number (take n l) ≡ x = cc in
        let y : drop n l ≡ r = cc in
        let u : length (take n l) ≡ n = length-take-le n l (leb-true _ _ t) in
        let c : Octets (take n l) = octets-take n l o in
        let z : octets n (number (take n l)) ≡ take n l = rw u at (octets-number (take n l) c) in
        (rw (← p, ← y, z) (sym (take-append-drop n l)), rw (← p) (rw u at (number_lt (take n l) c)))
    go false t q = absurd (bad-ok q)
