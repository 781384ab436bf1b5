-- Loops that write a list over a slice, from a place on: how such a loop starts, turns and ends. Stated over free numbers, so that each premise is plain
-- arithmetic wherever a loop keeps its place. Assumes nothing.
use mathlib.Core.Path.{◌≡◌, sym, ap, ◌∙◌}
use mathlib.Core.List.{List, ◌++◌, append_assoc}
use Prim.Native.Nat.{ℕ, suc, ◌+◌, ◌-◌, ◌≤◌, ◌<◌}
use native.Mathlib.Omega.{arith}
use native.Mathlib.Numerals.{add-one}
use lib.ListN.{length, take, drop, get_or, set, replicate, length-append, length-take, length-drop, length-replicate, get_or-replicate, take-append-drop}
use lib.Seq.{sets, sets-eq, paste, take-length, length-take-le, get_or-drop, drop-drop}
use Rattle.octets.proofs.Numbers.{sets-step}
use Rattle.rows.specs.Image.{closed}
use Rattle.rows.proofs.Places.{sets-mid, get_or-sets, drop-take}

-- d with the first j of s over it from a place on. Shut, so that a proof can leave its arguments to be found.
unfoldable pub part : List ℕ → ℕ → List ℕ → ℕ → List ℕ
part d at s j = sets d at (take j s)

-- before the first turn
pub start : (d s : List ℕ) (at j : ℕ) → j ≡ 0 → d ≡ part d at s j
unfolding part
start d s at j e = rw e

-- a turn
pub step : (d s : List ℕ) (at i j j' v : ℕ) → i ≡ at + j → j' ≡ suc j → v ≡ get_or s j 0 → j < length s → set (part d at s j) i v ≡ part d at s j'
unfolding part
step d s at i j j' v ei ej ev h = rw (ei, ej, ev, ← add-one j) (sets-step d s at j h)

-- where the loop stops before the end of s
pub stopped : (d s : List ℕ) (at j n : ℕ) → j ≡ n → part d at s j ≡ sets d at (take n s)
unfolding part
stopped d s at j n e = rw e

-- and at its end
pub done : (d s : List ℕ) (at j : ℕ) → j ≡ length s → part d at s j ≡ sets d at s
unfolding part
done d s at j e = rw (e, take-length s)

-- ---- zeros

-- a turn of a loop that writes n zeros
pub zero-step : (d : List ℕ) (at n i j j' : ℕ) → i ≡ at + j → j' ≡ suc j → j < n → set (part d at (replicate n 0) j) i 0 ≡ part d at (replicate n 0) j'
zero-step d at n i j j' ei ej h =
    step d (replicate n 0) at i j j' 0 ei ej (sym (get_or-replicate n j 0 0 h)) (omega (arith, length-replicate {A = ℕ} n 0))

-- ---- moving down

-- behind what has been written the old elements stand
pub ahead : (d s : List ℕ) (at j k : ℕ) → at + j ≤ k → get_or (part d at s j) k 0 ≡ get_or d k 0
unfolding part
ahead d s at j k h = get_or-sets (take j s) d at k (omega (arith, length-take j s))

-- a loop that moves elements n places down reads what stood there at first
pub pull : (d : List ℕ) (at n m i j k : ℕ) → at ≤ i → m ≡ at + n → j ≡ i - at → k ≡ i + n → get_or (part d at (drop m d) j) k 0 ≡ get_or (drop m d) j 0
pull d at n m i j k h em ej ek =
    let e : k ≡ m + j = omega arith in
    ahead d (drop m d) at j k (omega arith) ∙ ap (λ (x : ℕ). get_or d x 0) e ∙ sym (get_or-drop m d j 0)

-- what has moved down, up to the end of what is in use, with zeros over its own end, is closed up
pub close-sets : (d x : List ℕ) (at n m j e end : ℕ) → x ≡ sets d at (take j (drop m d)) → m ≡ at + n → end ≡ m + j → e ≡ at + j → end ≤ length d
    → sets x e (replicate n 0) ≡ closed d at n end
unfolding closed
close-sets d x at n m j e end ex em ee ej h =
    let T : List ℕ = take j (drop m d) in
    let D : List ℕ = drop e d in
    let lT : length T ≡ j = length-take-le j (drop m d) (omega (arith, length-drop m d)) in
    let lp : length (take at d ++ T) ≡ e = omega (arith, length-append (take at d) T, length-take-le at d (omega arith)) in
    let lz : length (take n D) ≡ length (replicate {A = ℕ} n 0) = length-take-le n D (omega (arith, length-drop e d)) ∙ sym (length-replicate n 0) in
    let a : at + length T ≡ e = omega arith in
    let b : e + n ≡ end = omega arith in
    let c : at + n ≡ m = omega arith in
    let y : x ≡ (take at d ++ T) ++ (take n D ++ drop n D) =
    ex ∙ sets-eq T d at (omega arith) ∙ ap (λ (k : ℕ). take at d ++ T ++ drop k d) a ∙ ap (λ (r : List ℕ). take at d ++ T ++ r) (sym (take-append-drop n D)) in
    let z : drop n D ≡ drop end d = drop-drop n e d ∙ ap (λ (k : ℕ). drop k d) b in
    rw (y, c, drop-take d m j end (omega arith) ee, ← z) (sets-mid (take at d ++ T) (take n D) (drop n D) (replicate n 0) e lp lz ∙ append_assoc (take at d) T (replicate n 0 ++ drop n D))

-- the same for what a loop has left
pub close-all : (d x : List ℕ) (at n m j e end : ℕ) → x ≡ part d at (drop m d) j → m ≡ at + n → end ≡ m + j → e ≡ at + j → end ≤ length d
    → sets x e (replicate n 0) ≡ closed d at n end
unfolding part
close-all d x at n m j e end ex em ee ej h = close-sets d x at n m j e end ex em ee ej h

-- a part that was copied within the list is written from a place on
pub pasted : (d s : List ℕ) (at n m : ℕ) → n ≡ m → n ≤ length s → at + n ≤ length d
    → paste d at s n ≡ sets d at (take m s)
pasted d s at n m e h l =
    let k = length-take-le n s h in
    ap (λ (j : ℕ). take at d ++ take n s ++ drop (at + j) d) (sym k)
    ∙ sym (sets-eq (take n s) d at (omega (arith, k)))
    ∙ ap (λ (j : ℕ). sets d at (take j s)) e
