-- The lines of the table before the body: which operation types are fitted.
use Prim.Native.Nat.{ℕ, ◌≤◌}
use mathlib.Core.Bool.{Bool, true, false, not, ◌&&◌, cond}
use mathlib.Core.List.{List, [], ◌∷◌}
use mathlib.Core.Path.{◌≡◌, refl, ap, ◌∙◌}
use native.Mathlib.Omega.{arith}
use lib.Dec.{eqb, ltb}
use lib.ListN.{length, get_or}
use Rattle.octets.specs.Number.{version_part, fill_part}
use Rattle.admission.specs.declared.Head.{Head}
use Rattle.requests.specs.Command.{known}
use Rattle.requests.proofs.Readings.{Others, types, unknown-others}
use Rattle.store.specs.Model.{State, head_of}
use Rattle.responder.specs.Respond.{fitted, Line, number, none, first_lines}

-- what decides for a type of the table: no option, allocation's, that of passwords, or both
pub record Fitted (a p : Bool) : Type 0 where
  pub free : (fitted a p 0 ≡ true) × (fitted a p 3 ≡ true) × (fitted a p 4 ≡ true) × (fitted a p 5 ≡ true) × (fitted a p 6 ≡ true)
  pub allocation : (fitted a p 1 ≡ a) × (fitted a p 2 ≡ a)
  pub both : (fitted a p 65 ≡ (a && p)) × (fitted a p 66 ≡ (a && p))
  pub passwords : (fitted a p 67 ≡ p) × (fitted a p 68 ≡ p) × (fitted a p 69 ≡ p) × (fitted a p 70 ≡ p)

pub fitted-by : (a p : Bool) → Fitted a p
unfolding fitted known
fitted-by true true = record { free = (refl, refl, refl, refl, refl); allocation = (refl, refl); both = (refl, refl); passwords = (refl, refl, refl, refl) }
fitted-by true false = record { free = (refl, refl, refl, refl, refl); allocation = (refl, refl); both = (refl, refl); passwords = (refl, refl, refl, refl) }
fitted-by false true = record { free = (refl, refl, refl, refl, refl); allocation = (refl, refl); both = (refl, refl); passwords = (refl, refl, refl, refl) }
fitted-by false false = record { free = (refl, refl, refl, refl, refl); allocation = (refl, refl); both = (refl, refl); passwords = (refl, refl, refl, refl) }

-- a type that the table lacks is not
pub unfitted : (a p : Bool) (kind : ℕ) → Others kind types → fitted a p kind ≡ false
unfolding fitted
unfitted a p kind o = rw (unknown-others kind o)

-- ---- the lines by the unit's head

abbrev pub lines_by : Head → List ℕ → Line
lines_by h s =
    cond (eqb (length s) 0) (number 16)
    (cond (ltb h.limits.message (length s)) (number 16)
    (cond (not (eqb (version_part (get_or s 0 0)) h.version)) (number 4)
    (cond (not (eqb (fill_part (get_or s 0 0)) 0)) (number 16)
    (cond (not (eqb (get_or s 1 0) 1)) (number 16)
    (cond (ltb (length s) 3) (number 16)
    (cond (not (fitted h.allocation h.passwords (get_or s 2 0))) (number 12)
    none))))))

pub lines_are : (h : Head) (u : State) (s : List ℕ) (l : Line) → h ≡ head_of u → l ≡ lines_by h s → l ≡ first_lines u s
unfolding first_lines
lines_are h u s l e q = q ∙ ap (λ (g : Head). lines_by g s) e

-- a request of one octet has no command type
pub second-absent : (s : List ℕ) → length s ≤ 1 → eqb (get_or s 1 0) 1 ≡ false
second-absent [] h = refl
second-absent (x ∷ []) h = refl
second-absent (x ∷ (y ∷ s)) h = absurd (omega arith)
