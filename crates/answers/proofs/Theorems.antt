-- The theorems about answers and the denial that docs/PROOFS.md names.
use Prim.Native.Nat.{ℕ, ◌≤◌}
use mathlib.Core.Path.{◌≡◌, refl, sym, ap, ◌∙◌}
use mathlib.Core.Bool.{Bool, true, false, cond}
use mathlib.Core.List.{List, [], append-nil}
use native.Mathlib.Omega.{arith}
use lib.ListN.{length, get_or, take}
use lib.Dec.{ltb}
use borrow.Author.Tests.{le-ltb, ltb-false}
use Rattle.octets.specs.Reading.{Read, bad, ok, and_then, at_end, told, message, Octets}
use Rattle.octets.specs.Frame.{Message, decode, encode, opening}
use Rattle.octets.specs.declared.Fault.TheVariants.{Other}
use Rattle.octets.proofs.Places.{bad-ok, ok-val, ok-rest, told-ok, went, end_back}
use Rattle.octets.specs.Area.{Does, described}
use Rattle.octets.specs.declared.Fault.{Fault}
use Rattle.std.specs.Prelude.{Result, Ok}
use Rattle.octets.proofs.Lengths.{encode-some}
use Rattle.octets.proofs.Areas.{written-front}
use Rattle.octets.proofs.Frames.{written-reads, read-written, read_whole, receive-is, receive_all}
use Rattle.answers.specs.Denial.{Denial, denial}
use Rattle.answers.specs.Answer.{Body, answer_body, Answer, accepted, denied, is_denial, decode_answer, answer_read, answer_octets, answer_writable, answer_sent}
use Rattle.answers.specs.View.{reply_in, Understood}
use Rattle.answers.specs.declared.Reply.{Reply}
use Rattle.answers.proofs.Denials.{denial-lawful, denial-second, denial-fits, length-denial}
use Rattle.answers.proofs.Answers.{answer-lawful}

read_short : (s : List ℕ) → length s ≤ 2048 → answer_read s ≡ decode_answer s
unfolding answer_read
read_short s h = rw (le-ltb _ _ h)

second : (m : Message Body) → get_or (encode answer_body m) 1 0 ≡ 1
unfolding encode opening
second m = refl

-- what is written reads back as the answer or denial that it was written from
pub answer-written-reads : (a : Answer) → answer_writable a ≡ true → answer_read (answer_octets a) ≡ ok a []
answer-written-reads (accepted m) h =
    let x = receive-is answer_body answer-lawful (encode answer_body m) m [] (written-reads answer_body answer-lawful m h) in
    rw (read_short (encode answer_body m) x.0, second m, x.1)
answer-written-reads (denied d) h =
    let f = denial-fits d h in
    let n : length (denial.put d) ≤ 2048 = omega (arith, length-denial d, encode-some (length d.supplement), f) in
    let e : denial.get (denial.put d) ≡ ok d [] = rw (← append-nil (denial.put d)) (denial-lawful.there d [] h) in
    rw (read_short (denial.put d) n, denial-second d, e)

accepted-back : (s : List ℕ) (a : Answer) (m : Message Body) (r : List ℕ) → Octets s → length s ≤ 2048 → decode answer_body s ≡ ok m r → ◌≡◌ {A = Read Answer} (ok (accepted m) r) (ok a []) → (s ≡ answer_octets a) × (answer_writable a ≡ true)
accepted-back s a m r o h e g =
    let x : decode answer_body s ≡ ok m [] = e ∙ ap (λ (t : List ℕ). ok m t) (ok-rest g) in
    rw (← ok-val g) (read-written answer_body answer-lawful s m o (receive_all answer_body answer-lawful s h ∙ x))

denied-back : (s : List ℕ) (a : Answer) (d : Denial) (r : List ℕ) → Octets s → at_end (denial.get s) ≡ ok d r → ◌≡◌ {A = Read Answer} (ok (denied d) r) (ok a []) → (s ≡ answer_octets a) × (answer_writable a ≡ true)
denied-back s a d r o e g =
    let z = end_back (denial.get s) d r e in
    let x = denial-lawful.back s d [] o z.0 in
    rw (← ok-val g) (x.0 ∙ append-nil (denial.put d), x.1)

answer_back : (s : List ℕ) (a : Answer) → Octets s → answer_read s ≡ ok a [] → (s ≡ answer_octets a) × (answer_writable a ≡ true)
unfolding answer_read
answer_back s a o e = go (ltb 2048 (length s)) refl e
  where
    kind : length s ≤ 2048 → (b : Bool) → cond b (and_then (at_end (denial.get s)) (λ d r. ok (denied d) r)) (and_then (decode answer_body s) (λ m r. ok (accepted m) r)) ≡ ok a [] → (s ≡ answer_octets a) × (answer_writable a ≡ true)
    kind h true g = let w = went (at_end (denial.get s)) (λ d r. ok (denied d) r) a [] g in denied-back s a w.val w.rest o w.first w.then
    kind h false g = let w = went (decode answer_body s) (λ m r. ok (accepted m) r) a [] g in accepted-back s a w.val w.rest o h w.first w.then

    go : (b : Bool) → ltb 2048 (length s) ≡ b → cond b (bad Other) (decode_answer s) ≡ ok a [] → (s ≡ answer_octets a) × (answer_writable a ≡ true)
    go true f g = absurd (bad-ok g)
    go false f g = kind (ltb-false _ _ f) (is_denial s) g

-- an answer is read to the last octet
answer-whole : (s : List ℕ) (a : Answer) (r : List ℕ) → answer_read s ≡ ok a r → r ≡ []
unfolding answer_read
answer-whole s a r e = go (ltb 2048 (length s)) refl e
  where
    kind : length s ≤ 2048 → (b : Bool) → cond b (and_then (at_end (denial.get s)) (λ d t. ok (denied d) t)) (and_then (decode answer_body s) (λ m t. ok (accepted m) t)) ≡ ok a r → r ≡ []
    kind h true g =
        let w = went (at_end (denial.get s)) (λ d t. ok (denied d) t) a r g in
        sym (ok-rest w.then) ∙ (end_back (denial.get s) w.val w.rest w.first).1
    kind h false g =
        let w = went (decode answer_body s) (λ m t. ok (accepted m) t) a r g in
        sym (ok-rest w.then) ∙ read_whole answer_body answer-lawful s w.val w.rest (receive_all answer_body answer-lawful s h ∙ w.first)

    go : (b : Bool) → ltb 2048 (length s) ≡ b → cond b (bad Other) (decode_answer s) ≡ ok a r → r ≡ []
    go true f g = absurd (bad-ok g)
    go false f g = kind (ltb-false _ _ f) (is_denial s) g

-- whatever is read is exactly what would be written from the answer or denial that it was read as
pub answer-read-written : (s : List ℕ) (a : Answer) → Octets s → told (answer_read s) ≡ message a → (s ≡ answer_octets a) × (answer_writable a ≡ true)
answer-read-written s a o e =
    let x = told-ok (answer_read s) a e in
    answer_back s a o (x.1 ∙ ap (λ (r : List ℕ). ok a r) (answer-whole s a x.0 x.1))

-- the same of the code: what a writer of answers wrote, from slices that describe an answer or directly, the reader tells as that answer or denial
pub answer-trip : (b : Bool) (a : Answer) (old new : List ℕ) (n : ℕ) (r : Result Reply Fault)
    → Does (described b (answer_sent a old) old) (Ok n) new → Understood (take n new) r
    → reply_in (take n new) r ≡ message a
answer-trip true a old new n r d u =
    let x = written-front (answer_writable a) (answer_octets a) old new n d in
    u.says ∙ ap (λ (l : List ℕ). told (answer_read l)) x.1 ∙ ap told (answer-written-reads a x.0)
answer-trip false a old new n r d u = let x = d.says in let z : ◌≡◌ {A = ℕ} 0 1 = cc in absurd (omega arith)

-- and what the reader tells as an answer or denial is written again as those octets
pub answer-again : (s : List ℕ) (a : Answer) (r : Result Reply Fault) → Octets s → Understood s r
    → reply_in s r ≡ message a → (s ≡ answer_octets a) × (answer_writable a ≡ true)
answer-again s a r o u e = answer-read-written s a o (sym u.says ∙ e)
