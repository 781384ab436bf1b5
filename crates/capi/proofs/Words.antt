-- A lent slice that is filled from its first place on: with zeros, with as many words as it has, or with fewer.
use Prim.Native.Nat.{ℕ, ◌+◌, ◌≤◌, ◌<◌}
use mathlib.Core.Path.{◌≡◌, sym, ◌∙◌}
use mathlib.Core.List.{List, ◌++◌, append-nil}
use native.Mathlib.Omega.{arith}
use lib.ListN.{length, take, drop, get_or, set, replicate, length-replicate, get_or-replicate, drop_of_length-le}
use lib.Seq.{sets, sets-eq, take_all}
use Rattle.octets.proofs.Numbers.{sets-step}

-- at the front, and the rest stays
pub front : (l v : List ℕ) → length v ≤ length l → sets l 0 v ≡ v ++ drop (length v) l
front l v h =
    let e : 0 + length v ≡ length v = omega arith in
    rw e at (sets-eq v l 0 (omega arith))

-- all of it
pub whole : (l v : List ℕ) → length l ≡ length v → sets l 0 v ≡ v
whole l v h = front l v (omega arith) ∙ rw (drop_of_length-le l {i = length v} (omega arith)) (append-nil v)

-- ---- zeros, one more

pub zero-step : (l : List ℕ) (i : ℕ) → i < length l → set (sets l 0 (take i (replicate (length l) 0))) i 0 ≡ sets l 0 (take (i + 1) (replicate (length l) 0))
zero-step l i h =
    let v : List ℕ = replicate (length l) 0 in
    let e : get_or v i 0 ≡ 0 = get_or-replicate (length l) i 0 0 h in
    let z : 0 + i ≡ i = omega arith in
    rw (z, e) at (sets-step l v 0 i (omega (arith, length-replicate {A = ℕ} (length l) 0)))

pub zero-done : (l : List ℕ) (i : ℕ) → length l ≤ i → sets l 0 (take i (replicate (length l) 0)) ≡ replicate (length l) 0
zero-done l i h =
    let v : List ℕ = replicate (length l) 0 in
    let n : length v ≡ length l = length-replicate {A = ℕ} (length l) 0 in
    rw (take_all i v (omega arith)) (whole l v (sym n))
