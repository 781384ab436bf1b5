-- What a list of anything stands for in a slice of numbers: the table for its slots, the memory for the areas. What is unused is zero.
use Rattle.std.specs.Prelude.{ℕ, ◌+◌, ◌-◌, length, take, drop, replicate}
use mathlib.Core.List.{List, ◌++◌, flat_map}

module _ {A : Type 0} where
  -- what each stands for, one after another, and zeros up to n numbers in all
  unfoldable pub image : (A → List ℕ) → List A → ℕ → List ℕ
  image f l n = flat_map f l ++ replicate (n - length (flat_map f l)) 0

-- the n numbers at a place go, those behind them move up, and zeros come in before the end of what is in use
unfoldable pub closed : List ℕ → ℕ → ℕ → ℕ → List ℕ
closed d at n end = take at d ++ (drop (at + n) (take end d) ++ (replicate n 0 ++ drop end d))
