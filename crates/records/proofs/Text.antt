-- Laws of the text: how long it is, and how it is written digit by digit.
use Prim.Native.Nat.{ℕ, zero, suc, ◌+◌, ◌-◌, ◌*◌, ◌/◌, ◌%◌, ◌^◌, ◌≤◌, ◌<◌}
use mathlib.Core.Path.{◌≡◌, refl, ◌∙◌}
use mathlib.Core.Bool.{Bool, true, false, cond}
use mathlib.Core.List.{List, [], ◌∷◌, ◌++◌}
use native.Mathlib.Omega.{arith}
use native.Mathlib.Nat.{pow-suc}
use native.Mathlib.Numerals.{add-one}
use lib.ListN.{length, take, get_or, length-append}
use lib.Seq.{sets-eq, take-suc}
use lib.Dec.{ltb}
use borrow.Author.Tests.{lt-ltb, le-ltb, ltb-false}
use Rattle.octets.specs.Area.{Wrote}
use Rattle.octets.proofs.Areas.{wrote-sets}
use Rattle.records.specs.Text.{digits, decimal, pair, hexadecimal, answer_line, worded}
use Rattle.records.specs.Entry.{over}

-- ---- decimal

-- no digits; one digit; the digits of a tenth and one more
pub digits-none : (k n : ℕ) → k ≡ 0 → digits k n ≡ []
unfolding digits
digits-none k n e = rw e

pub digits-one : (k n : ℕ) → 0 < k → n < 10 → digits k n ≡ (48 + n) ∷ []
unfolding digits
digits-one k n h g = let e : k ≡ suc (k - 1) = omega arith in rw (e, lt-ltb _ _ g)

pub digits_more : (k n : ℕ) → 0 < k → 10 ≤ n → digits k n ≡ digits (k - 1) (n / 10) ++ ((48 + n % 10) ∷ [])
unfolding digits
digits_more k n h g = let e : k ≡ suc (k - 1) = omega arith in go (k - 1) e
  where
    go : (j : ℕ) → k ≡ suc j → digits k n ≡ digits j (n / 10) ++ ((48 + n % 10) ∷ [])
    go j e = rw (e, le-ltb _ _ g)

-- they are at most so many
pub length_digits : (k n : ℕ) → length (digits k n) ≤ k
unfolding digits
length_digits zero n = omega arith
length_digits (suc k) n = go (ltb n 10) (length_digits k (n / 10))
  where
    go : (b : Bool) → length (digits k (n / 10)) ≤ k → length (cond b ((48 + n) ∷ []) (digits k (n / 10) ++ ((48 + n % 10) ∷ []))) ≤ suc k
    go true h = omega arith
    go false h = rw length-append (omega arith)

pub length-decimal : (n : ℕ) → length (decimal n) ≤ 10
unfolding decimal
length-decimal n = length_digits 10 n

-- ---- hexadecimal

-- an octet takes two digits
pub length-hexadecimal : (s : List ℕ) → length (hexadecimal s) ≡ 2 * length s
unfolding hexadecimal
length-hexadecimal [] = refl
length-hexadecimal (x ∷ s) = omega (arith, length-hexadecimal s)

-- one octet more at the end
hexadecimal-snoc : (s : List ℕ) (x : ℕ) → hexadecimal (s ++ (x ∷ [])) ≡ hexadecimal s ++ pair x
unfolding hexadecimal
hexadecimal-snoc [] x = refl
hexadecimal-snoc (y ∷ s) x = rw (hexadecimal-snoc s x)

-- one octet more, as a loop writes it
pub hexadecimal-step : (s : List ℕ) (i : ℕ) → i < length s → hexadecimal (take (i + 1) s) ≡ hexadecimal (take i s) ++ pair (get_or s i 0)
hexadecimal-step s i h = rw (add-one i, take-suc s i 0 h) (hexadecimal-snoc (take i s) (get_or s i 0))

-- ---- lines

pub length-worded : (words : List ℕ) (n : ℕ) → length (worded words n) ≤ length words + 11
unfolding worded
length-worded words n = simp length-append (omega (arith, length-decimal n))

pub length-answer-line : (n : ℕ) (s : List ℕ) → length (answer_line n s) ≤ 12 + 2 * length s
unfolding answer_line
length-answer-line n s = simp length-append (omega (arith, length-decimal n, length-hexadecimal s))

-- ---- writing

-- what is written behind what was written
pub wrote_on : {old v x w y : List ℕ} {at p q : ℕ} → Wrote old at v x p → Wrote x p w y q → Wrote old at (v ++ w) y q
wrote_on {old} {v} {x} {w} h g = wrote-sets w h g.holds g.next

-- what was written stands over the old content, and ends so many octets on
pub wrote-over : {old v new : List ℕ} {at p : ℕ} → at + length v ≤ length old → Wrote old at v new p → (new ≡ over old at v) × (p - at ≡ length v)
wrote-over {old} {v} {new} {at} {p} h w = (w.holds ∙ sets-eq v old at h, omega (arith, w.next))

-- ---- what the digits of a number stand for

-- read on behind a value
abbrev pub read_on : ℕ → List ℕ → ℕ
read_on x [] = x
read_on x (c ∷ s) = read_on (x * 10 + (c - 48)) s

read-snoc : (s : List ℕ) (x c : ℕ) → read_on x (s ++ (c ∷ [])) ≡ read_on x s * 10 + (c - 48)
read-snoc [] x c = refl
read-snoc (d ∷ s) x c = read-snoc s (x * 10 + (d - 48)) c

-- they read as the number, if there are places enough
pub digits-read : (k n : ℕ) → n < 10 ^ k → read_on 0 (digits k n) ≡ n
unfolding digits
digits-read zero n h = omega (arith, h)
digits-read (suc k) n h = go (ltb n 10) refl (λ g. digits-read k (n / 10) g)
  where
    go : (b : Bool) → ltb n 10 ≡ b → (n / 10 < 10 ^ k → read_on 0 (digits k (n / 10)) ≡ n / 10) → read_on 0 (cond b ((48 + n) ∷ []) (digits k (n / 10) ++ ((48 + n % 10) ∷ []))) ≡ n
    go true e f = omega arith
    go false e f = rw (read-snoc (digits k (n / 10)) 0 (48 + n % 10), f (omega (arith, h, pow-suc 10 k))) (omega arith)

-- the first of some octets is the first of them with others behind
first-append : (s t : List ℕ) → 48 < get_or s 0 0 → get_or (s ++ t) 0 0 ≡ get_or s 0 0
first-append [] t h = absurd (omega arith)
first-append (c ∷ s) t h = refl

-- and the first of them is no zero, but for the number 0
pub digits-first : (k n : ℕ) → 0 < n → n < 10 ^ k → 48 < get_or (digits k n) 0 0
unfolding digits
digits-first zero n p h = absurd (omega (arith, h))
digits-first (suc k) n p h = go (ltb n 10) refl (λ q g. digits-first k (n / 10) q g)
  where
    go : (b : Bool) → ltb n 10 ≡ b → (0 < n / 10 → n / 10 < 10 ^ k → 48 < get_or (digits k (n / 10)) 0 0)
        → 48 < get_or (cond b ((48 + n) ∷ []) (digits k (n / 10) ++ ((48 + n % 10) ∷ []))) 0 0
    go true e f = omega arith
    go false e f =
        let g = f (omega (arith, ltb-false n 10 e)) (omega (arith, h, pow-suc 10 k)) in
        rw (first-append (digits k (n / 10)) ((48 + n % 10) ∷ []) g) g
