-- The promise of step leaves one outcome: any two that it allows are equal, to the last word and octet.
use mathlib.Core.Path.{◌≡◌, refl, sym, ◌∙◌}
use mathlib.Core.List.{List}
use Prim.Native.Nat.{ℕ}
use Rattle.std.specs.Prelude.{Option, Some, None}
use Rattle.admission.specs.declared.Head.{Head}
use Rattle.store.proofs.Unique.{shows-unique}
use Rattle.records.specs.Entry.{refusal, said, word_of, head_after, Out, Stepped}
use Rattle.records.specs.declared.Outcome.{Outcome}
use Rattle.records.specs.declared.Turn.{Turn}
use Rattle.records.specs.declared.Turn.TheVariants.{More, Answered, Ended}

-- one answer has a word
turn-unique : (r v : Turn) → said r ≡ said v → r ≡ v
turn-unique More More e = refl
turn-unique (Answered a b) (Answered c d) e = let x : a ≡ c = cc in let y : b ≡ d = cc in rw (x, y)
turn-unique (Ended a) (Ended b) e = let x : a ≡ b = cc in rw x
turn-unique More (Answered a b) e = cc
turn-unique More (Ended a) e = cc
turn-unique (Answered a b) More e = cc
turn-unique (Answered a b) (Ended c) e = cc
turn-unique (Ended a) More e = cc
turn-unique (Ended a) (Answered b c) e = cc

-- and none of them is 300
not-refused : (r : Turn) → said r ≡ refusal 300 → ⊥
not-refused More e = cc
not-refused (Answered a b) e = cc
not-refused (Ended a) e = cc

-- the word and the head of an answer are all of it
answer-unique : (h : Head) (r v : Option Outcome) → word_of r ≡ word_of v → head_after h r ≡ head_after h v → r ≡ v
answer-unique h None None e g = refl
answer-unique h (Some a) (Some b) e g = let z = turn-unique a.turn b.turn e in λ i. Some (record { head = g i; turn = z i })
answer-unique h None (Some b) e g = absurd (not-refused b.turn (sym e))
answer-unique h (Some a) None e g = absurd (not-refused a.turn e)

-- step: its answer, the area for lines, table and memory
pub step-unique : (o : Out) (h : Head) (r v : Option Outcome) (x y t p q m : List ℕ) → Stepped o h r x t p → Stepped o h v y q m → (r ≡ v) × (x ≡ y) × (t ≡ q) × (p ≡ m)
step-unique o h r v x y t p q m a b =
    let w = shows-unique o.unit (head_after h r) (head_after h v) t p q m a.left b.left in
    (answer-unique h r v (a.says ∙ sym b.says) w.0, a.area ∙ sym b.area, w.1, w.2)
