-- Laws of the output: it does not depend on the bound on the number of records, and is made of what is printed for the front and of the output for what stands behind.
use Prim.Native.Nat.{ℕ, zero, suc, ◌≤◌, ◌<◌}
use mathlib.Core.Path.{◌≡◌, refl, ap, ◌∙◌}
use mathlib.Core.List.{List, ◌++◌}
use native.Mathlib.Omega.{arith}
use lib.ListN.{length}
use Rattle.store.specs.Model.{State}
use Rattle.records.specs.Text.{answer_line}
use Rattle.records.specs.Record.{Front, nothing, wrong, cut, whole, front_after}
use Rattle.records.specs.Output.{answer_to, unit_after, printed, output_within, output_from}
use Rattle.records.proofs.Fronts.{look-nothing, Spans, spans}

-- two outputs that agree on fewer octets agree
printed-same : (f g : State → ℕ → List ℕ → List ℕ) (u : State) (n : ℕ) (s : List ℕ) (w : Front) → Spans 5 s w
    → ((v : State) (m : ℕ) (t : List ℕ) → length t < length s → f v m t ≡ g v m t) → printed f u n w ≡ printed g u n w
printed-same f g u n s nothing h e = refl
printed-same f g u n s wrong h e = refl
printed-same f g u n s cut h e = refl
printed-same f g u n s (whole p r t) h e =
    ap (λ (x : List ℕ). answer_line (suc n) (answer_to u p r) ++ x) (e (unit_after u p r) (suc n) t (omega (arith, h.1)))

-- any bound that is large enough gives the same
enough : (k j : ℕ) (u : State) (n : ℕ) (s : List ℕ) → length s ≤ k → length s ≤ j → output_within k u n s ≡ output_within j u n s
unfolding output_within
enough zero zero u n s h g = refl
enough zero (suc j) u n s h g = rw (look-nothing n s (omega arith))
enough (suc k) zero u n s h g = rw (look-nothing n s (omega arith))
enough (suc k) (suc j) u n s h g =
    printed-same (output_within k) (output_within j) u n s (front_after n s) (spans n s) (λ v m t l. enough k j v m t (omega arith) (omega arith))

-- what is printed for the front, and behind it the output for the rest
pub unrolled : (u : State) (n : ℕ) (s : List ℕ) → output_from u n s ≡ printed output_from u n (front_after n s)
unfolding output_from output_within
unrolled u n s =
    enough (length s) (suc (length s)) u n s (omega arith) (omega arith)
    ∙ printed-same (output_within (length s)) output_from u n s (front_after n s) (spans n s) (λ v m t l. enough (length s) (length t) v m t (omega arith) (omega arith))
