-- The number of a denial tells which it is, so that a verdict by number leaves one outcome.
use Prim.Native.Nat.{ℕ, ◌-◌}
use mathlib.Core.List.{[], ◌∷◌}
use mathlib.Core.Path.{◌≡◌, refl, sym, ap, ◌∙◌}
use Rattle.std.specs.Prelude.{get_or, Result, Ok, Err}
use Rattle.octets.proofs.Places.{false-true}
use Rattle.admission.specs.Denial.{number, Verdict, Allowed, Denied, verdict_of}
use Rattle.admission.specs.declared.Denial.{Denial}
use Rattle.admission.specs.declared.Denial.TheVariants as d
use Rattle.admission.proofs.Admitted.{is_denied}

-- the denial with a number
abbrev pub named : ℕ → Denial
named n =
    get_or (d.Version ∷ d.Room ∷ d.Tag ∷ d.List ∷ d.Mode ∷ d.Size ∷ d.Password ∷ d.Port ∷ d.Option ∷ []) (n - 4)
    d.Octets

-- it is the denial that has the number
pub named-number : (x : Denial) → named (number x) ≡ x
named-number d.Version = refl
named-number d.Room = refl
named-number d.Tag = refl
named-number d.List = refl
named-number d.Mode = refl
named-number d.Size = refl
named-number d.Password = refl
named-number d.Port = refl
named-number d.Option = refl
named-number d.Octets = refl

-- no two denials have one number
pub number-apart : (x y : Denial) → number x ≡ number y → x ≡ y
number-apart x y e = sym (named-number x) ∙ ap named e ∙ named-number y

-- the number that denies; of what is let through none
abbrev pub number_in : Verdict → ℕ
number_in Allowed = 0
number_in (Denied n) = n

-- two outcomes with one verdict are one, where no value comes with what is let through
pub verdict-apart : (r t : Result Unit Denial) → verdict_of r ≡ verdict_of t → r ≡ t
verdict-apart (Ok a) (Ok b) e = refl
verdict-apart (Ok a) (Err y) e = absurd (false-true (ap is_denied e))
verdict-apart (Err x) (Ok b) e = absurd (false-true (sym (ap is_denied e)))
verdict-apart (Err x) (Err y) e = ap Err (number-apart x y (ap number_in e))
