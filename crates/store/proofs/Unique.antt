-- Each promise of this crate leaves one outcome: any two that it allows are equal, to the last word and octet.
-- The promises of find, of remainder and of Unit::new are themselves equations for the result.
use Rattle.std.specs.Prelude.{Option, Some, None, Result, Ok, Err}
use Prim.Native.Nat.{ℕ}
use mathlib.Core.Path.{◌≡◌, refl, sym, ap, ◌∙◌}
use mathlib.Core.List.{List}
use native.Mathlib.Omega.{arith}
use Rattle.octets.specs.declared.Access.{Access}
use Rattle.octets.specs.declared.Port.{Port}
use Rattle.octets.specs.declared.Span.{Span}
use Rattle.octets.proofs.Places.{false-true}
use Rattle.admission.specs.declared.Head.{Head}
use Rattle.admission.specs.Denial.{number, Verdict, verdict_of}
use Rattle.admission.specs.declared.Denial.{Denial}
use Rattle.admission.proofs.Admitted.{is_denied}
use Rattle.admission.proofs.Unique.{number-apart, number_in, verdict-apart}
use Rattle.store.specs.Answers.{begun, Did, head_after, held_of, ReadOf}
use Rattle.store.specs.Model.{State, Shows}
use Rattle.store.specs.Steps.{Step}

-- one head, one table and one memory stand for a unit
pub shows-unique : (u : State) (h g : Head) (t p q m : List ℕ) → Shows u h t p → Shows u g q m → (h ≡ g) × (t ≡ q) × (p ≡ m)
shows-unique u h g t p q m a b = (a.head ∙ sym b.head, a.rows ∙ sym b.rows, a.octets ∙ sym b.octets)

-- write, free, allocate, fit: answer, head, table and memory
pub did-unique : (s : Step) (r v : Verdict) (h g : Head) (t p q m : List ℕ) → Did s r h t p → Did s v g q m → (r ≡ v) × (h ≡ g) × (t ≡ q) × (p ≡ m)
did-unique s r v h g t p q m a b =
    let w = shows-unique s.unit h g t p q m a.left b.left in
    (a.answered ∙ sym b.answered, w.0, w.1, w.2)

-- of an outcome with a new head the verdict and the head behind it tell all
head-apart : (h : Head) (r v : Result Head Denial) → verdict_of r ≡ verdict_of v → head_after h r ≡ head_after h v → r ≡ v
head-apart h (Ok f) (Ok g) e w = ap Ok w
head-apart h (Ok f) (Err d) e w = absurd (false-true (ap is_denied e))
head-apart h (Err c) (Ok g) e w = absurd (false-true (sym (ap is_denied e)))
head-apart h (Err c) (Err d) e w = ap Err (number-apart c d (ap number_in e))

-- write: the outcome, with table and memory
pub write-unique : (s : Step) (r v : Result Unit Denial) (h : Head) (t p q m : List ℕ) → Did s (verdict_of r) h t p → Did s (verdict_of v) h q m
    → (r ≡ v) × (t ≡ q) × (p ≡ m)
write-unique s r v h t p q m a b =
    let w = did-unique s (verdict_of r) (verdict_of v) h h t p q m a b in
    (verdict-apart r v w.0, w.2, w.3)

-- free, allocate, fit: the outcome, with table and memory
pub head-unique : (s : Step) (r v : Result Head Denial) (h : Head) (t p q m : List ℕ) → Did s (verdict_of r) (head_after h r) t p
    → Did s (verdict_of v) (head_after h v) q m → (r ≡ v) × (t ≡ q) × (p ≡ m)
head-unique s r v h t p q m a b =
    let w = did-unique s (verdict_of r) (verdict_of v) (head_after h r) (head_after h v) t p q m a b in
    (head-apart h r v w.0 w.1, w.2, w.3)

-- the number of a read's denial tells which it is
held-apart : (r v : Result Span Denial) → held_of r ≡ held_of v → r ≡ v
held-apart (Ok p) (Ok q) e = let z : p ≡ q = cc in ap Ok z
held-apart (Ok p) (Err d) e = let z : ◌≡◌ {A = ℕ} 0 1 = cc in absurd (omega arith)
held-apart (Err c) (Ok q) e = let z : ◌≡◌ {A = ℕ} 0 1 = cc in absurd (omega arith)
held-apart (Err c) (Err d) e = let z : number c ≡ number d = cc in ap Err (number-apart c d z)

-- read: the data's place
pub read-unique : (u : State) (x : ℕ) (p : Port) (a : Access) (pool : List ℕ) (r v : Result Span Denial) → ReadOf u x p a pool r → ReadOf u x p a pool v → r ≡ v
read-unique u x p a pool r v d e = held-apart r v (d.exact ∙ sym e.exact)

-- start
pub start-unique : (r v : Option Head) → begun r ≡ begun v → r ≡ v
start-unique (Some h) (Some g) e = let z : h ≡ g = cc in ap Some z
start-unique (Some h) None e = let z : ◌≡◌ {A = ℕ} 0 1 = cc in absurd (omega arith)
start-unique None (Some h) e = let z : ◌≡◌ {A = ℕ} 0 1 = cc in absurd (omega arith)
start-unique None None e = refl
