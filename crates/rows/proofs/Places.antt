-- Laws of lists cut around a place: what a store, a load and a close-up do to a list that is given in parts. Assumes nothing.
use mathlib.Core.Path.{◌≡◌, refl, sym, ap, ◌∙◌}
use mathlib.Core.List.{List, [], ◌∷◌, ◌++◌, append_assoc}
use Prim.Native.Nat.{ℕ, suc, ◌+◌, ◌≤◌, ◌<◌}
use native.Mathlib.Omega.{arith}
use native.Mathlib.Nat.{zero-add, suc-add}
use lib.ListN.{length, take, drop, get_or, set, replicate, length-append, get_or-append}
use lib.Seq.{sets, sets-eq, take_at, drop_at, take-add, length-take-le, set-append_left, get_or-append-add, get_or-set_other}
use Rattle.octets.proofs.Numbers.{sets-append}
use Rattle.rows.specs.Image.{closed}

module _ {A : Type 0} where
  -- all but the one at place i
  unfoldable pub remove : List A → ℕ → List A
  remove l i = take i l ++ drop (suc i) l

-- ---- a store of a run

-- over the middle of a list
pub sets-mid : (p x q z : List ℕ) (n : ℕ) → length p ≡ n → length x ≡ length z → sets (p ++ (x ++ q)) n z ≡ p ++ (z ++ q)
sets-mid p x q z n e l =
    let h : n + length z ≤ length (p ++ (x ++ q)) = omega (arith, length-append p (x ++ q), length-append x q) in
    let k : length (p ++ x) ≡ n + length z = omega (arith, length-append p x) in
    let d : drop (n + length z) (p ++ (x ++ q)) ≡ q = rw (← append_assoc p x q) (drop_at (p ++ x) q (n + length z) k) in
    sets-eq z (p ++ (x ++ q)) n h ∙ rw (take_at p (x ++ q) n e, d, append_assoc)

-- two stores side by side are one
pub sets-sets : (d a b : List ℕ) (at n : ℕ) → n ≡ at + length a → sets (sets d at a) n b ≡ sets d at (a ++ b)
sets-sets d a b at n e = rw e (sym (sets-append a b d at))

-- behind a store the old elements stand
pub get_or-sets : (v d : List ℕ) (at k : ℕ) → at + length v ≤ k → get_or (sets d at v) k 0 ≡ get_or d k 0
get_or-sets [] d at k h = refl
get_or-sets (a ∷ v) d at k h = get_or-sets v (set d at a) (suc at) k (omega arith) ∙ get_or-set_other d at k a 0 (λ e. omega arith)

-- ---- one element

set-right : (p q : List ℕ) (k v : ℕ) → set (p ++ q) (length p + k) v ≡ p ++ set q k v
set-right [] q k v = rw zero-add
set-right (x ∷ p) q k v = rw suc-add (ap (λ (r : List ℕ). x ∷ r) (set-right p q k v))

-- a store into the middle of a list
pub set-mid : (p x q : List ℕ) (n k i v : ℕ) → length p ≡ n → i ≡ n + k → k < length x → set (p ++ (x ++ q)) i v ≡ p ++ (set x k v ++ q)
set-mid p x q n k i v e ei h = rw (ei, ← e) (set-right p (x ++ q) k v ∙ ap (λ (r : List ℕ). p ++ r) (set-append_left x q k v h))

-- a load from the middle of a list
pub get_or-mid : (p x q : List ℕ) (n k i : ℕ) → length p ≡ n → i ≡ n + k → k < length x → get_or (p ++ (x ++ q)) i 0 ≡ get_or x k 0
get_or-mid p x q n k i e ei h = rw (ei, ← e) (get_or-append-add p (x ++ q) k 0 ∙ get_or-append x q 0 k h)

-- ---- closing up

-- what is in use up to a place, from a place on
pub drop-take : (l : List ℕ) (a b n : ℕ) → a ≤ length l → n ≡ a + b → drop a (take n l) ≡ take b (drop a l)
drop-take l a b n h e = rw (e, take-add a b l) (drop_at (take a l) (take b (drop a l)) a (length-take-le a l h))

-- the part x goes, q moves up, and r stays
pub closed-mid : (p x q r : List ℕ) (n k end : ℕ) → length p ≡ n → length x ≡ k → end ≡ n + k + length q
    → closed (p ++ (x ++ (q ++ r))) n k end ≡ p ++ (q ++ (replicate k 0 ++ r))
unfolding closed
closed-mid p x q r n k end e l ee =
    let a : length (p ++ (x ++ q)) ≡ end = omega (arith, length-append p (x ++ q), length-append x q) in
    let b : length (p ++ x) ≡ n + k = omega (arith, length-append p x) in
    let d : p ++ (x ++ (q ++ r)) ≡ (p ++ (x ++ q)) ++ r = simp append_assoc in
    let t : take end (p ++ (x ++ (q ++ r))) ≡ (p ++ x) ++ q = ap (take end) d ∙ take_at (p ++ (x ++ q)) r end a ∙ sym (append_assoc p x q) in
    let u : drop end (p ++ (x ++ (q ++ r))) ≡ r = ap (drop end) d ∙ drop_at (p ++ (x ++ q)) r end a in
    rw (t, u, take_at p (x ++ (q ++ r)) n e, drop_at (p ++ x) q (n + k) b)
