-- Lists whose elements have a number, and what is done by that number.
use Rattle.std.specs.Prelude.{ℕ, ◌≡◌, Bool, true, false, cond, List, [], ◌∷◌, eqb}

-- what a search gives
pub data Maybe (A : Type 0) : Type 0 where
  nowhere : Maybe A
  here : A → Maybe A

module _ {A : Type 0} where
  -- the first whose number is x
  unfoldable pub look : (A → ℕ) → ℕ → List A → Maybe A
  look key x [] = nowhere
  look key x (t ∷ ts) = cond (eqb (key t) x) (here t) (look key x ts)

  -- g of each whose number is x
  unfoldable pub change : (A → ℕ) → ℕ → (A → A) → List A → List A
  change key x g [] = []
  change key x g (t ∷ ts) = cond (eqb (key t) x) (g t) t ∷ change key x g ts

  -- t and the rest, or the rest alone
  abbrev pub unless : Bool → A → List A → List A
  unless true t rest = rest
  unless false t rest = t ∷ rest

  -- all but those whose number is x
  unfoldable pub without : (A → ℕ) → ℕ → List A → List A
  without key x [] = []
  without key x (t ∷ ts) = unless (eqb (key t) x) t (without key x ts)

  -- no number twice
  unfoldable pub Apart : (A → ℕ) → List A → Type 0
  Apart key [] = ◌≡◌ {A = ℕ} 0 0
  Apart key (t ∷ ts) = (look key (key t) ts ≡ nowhere) × Apart key ts
