-- The number of a refusal: a signed number of 32 bits, minus document 01's.
use Prim.Native.Nat.{ℕ, zero, suc, ◌<◌, ◌^◌}
use mathlib.Core.Path.{◌≡◌, ◌∙◌}
use native.Mathlib.Omega.{arith}
use lib.IntN.{ℤ, pos, neg_ℤ, ◌-ℤ◌, +ℤ_idl}
use lib.Signed.{mag}
use mir.Syntax.{w32}
use mir.Val.{SFits, to_z, of_z}
use mir.Facts.{to_z_pos, to_z-of_z}

-- a number of 16 bits, negated
negated : (n : ℕ) → n < 65536 → SFits w32 (neg_ℤ (pos n))
negated zero h = record { sfits = omega arith }
negated (suc n) h = record { sfits = omega arith }

module _ (n : ℕ) (h : n < 65536) where
  subtracted : pos 0 -ℤ to_z w32 n ≡ neg_ℤ (pos n)
  subtracted = rw (to_z_pos w32 {n = n} (omega arith)) (+ℤ_idl (neg_ℤ (pos n)))

  -- it fits its type
  pub refusal-fits : SFits w32 (pos 0 -ℤ to_z w32 n)
  refusal-fits = rw subtracted (negated n h)

  -- and is that number
  pub refusal_is : to_z w32 (of_z w32 (pos 0 -ℤ to_z w32 n)) ≡ neg_ℤ (pos n)
  refusal_is = rw subtracted (to_z-of_z (negated n h))

-- a number that was given is what is read back from its bits
pub read_back : (z : ℤ) {y : ℤ} → mag z < 2 ^ 31 → z ≡ y → to_z w32 (of_z w32 z) ≡ y
read_back z h e = to_z-of_z {w = w32} (record { sfits = h }) ∙ e
