-- An answer that may be written, in at most 2,048 octets, is written whole into an area of 2,048: what every way of replying comes to.
use Prim.Native.Nat.{ℕ, ◌≤◌, ◌*◌}
use mathlib.Core.Path.{◌≡◌, ◌∙◌, refl, ap}
use mathlib.Core.Bool.{Bool, true}
use mathlib.Core.List.{List, [], ◌∷◌}
use native.Mathlib.Omega.{arith}
use Rattle.std.proofs.Common.{rules}
use lib.ListN.{length, take}
use borrow.Author.Tests.{le-ltb, eq-eqb, ne_eqb}
use Rattle.octets.specs.Area.{Written, Outcome, done, outcome, written, described, Does}
use Rattle.answers.specs.Answer.{Answer, answer_octets, answer_writable, answer_sent, accepted, answer}
use Rattle.responder.specs.Entry.{Sent, sent_of, Sends, Serves, Denies}
use Rattle.std.specs.Prelude.{Some, Ok, Err}
use Rattle.answers.specs.Denial.{denial_sent}
use Rattle.tags.specs.Entry.{Keyed}
use Rattle.store.specs.Answers.{Did}
use Rattle.store.specs.Model.{State, Shows, Sound}
use Rattle.store.specs.Steps.{Step}
use Rattle.admission.specs.declared.Head.{Head}
use Rattle.admission.specs.Denial.{number, Allowed, Denied}
use Rattle.admission.specs.declared.Denial.{Denial}
use Rattle.admission.specs.declared.Denial.TheVariants.{Version}
use Rattle.admission.specs.contracts.Denial.{the_type}
use denote.Enum.Bare.{sameb}
use mir.Val.{bool_byte}
use Rattle.octets.specs.Number.{bare}
use Rattle.octets.specs.declared.Access.TheVariants.{Plain}
use Rattle.octets.specs.declared.Form.{Form}
use Rattle.octets.specs.declared.Unwritten.TheVariants.{Refused, NoRoom}
use Rattle.answers.specs.Answer as b
use Rattle.responder.specs.Respond.{supplement_of, denial, named, stepped}
use Rattle.responder.proofs.Writable.{denial-writable, writable-short}

-- what is told of a message that was written
sent-done : (w : Written) (n : ℕ) → outcome w ≡ done n → sent_of w ≡ Some n
sent-done (Ok m) n e = cc
sent-done (Err Refused) n e = cc
sent-done (Err NoRoom) n e = cc

-- an answer that may be written was written
pub sends : (a : Answer) {w : Written} {r : Sent} {old new : List ℕ} → answer_writable a ≡ true → length (answer_octets a) ≤ 2048 → 2048 ≤ length old
    → Does (answer_sent a old) w new → r ≡ sent_of w → Sends a r old new
unfolding written
sends a {w} {r} {old} {new} h n k d e =
    let g : length (answer_octets a) ≤ length old = omega arith in
    let x = rw (h, le-ltb _ _ g) at d in
    record { says = e ∙ sent-done w (length (answer_octets a)) x.says; area = x.area }

-- slices that describe a message are written as that message
pub described-so : (b : Bool) (o : Outcome × List ℕ) (old : List ℕ) {new : List ℕ} {w : Written} → b ≡ true → Does (described b o old) w new → Does o w new
described-so b o old e d = rw e at d

-- 4 carries the unit's version octet, and no other number carries anything
pub supplement-four : (version n : ℕ) → n ≡ 4 → version * 16 ∷ [] ≡ supplement_of version n
supplement-four version n e = rw (eq-eqb n 4 e)

pub supplement-none : (version n : ℕ) → (n ≡ 4 → ⊥) → [] ≡ supplement_of version n
supplement-none version n e = rw (ne_eqb n 4 e)

-- so does the denial of that number, and no other denial
supplement-by : (version : ℕ) (d : Denial) → take (bool_byte (sameb the_type d Version))
    (version * 16 ∷ []) ≡ supplement_of version (number d)
supplement-by version d = search rules

pub supplement-is : (version n : ℕ) (d : Denial) (b : Bool) → n ≡ bool_byte b → b ≡ sameb the_type d Version
    → take n (version * 16 ∷ []) ≡ supplement_of version (number d)
supplement-is version n d b e f = rw (e, f) (supplement-by version d)

-- no number is over 16
number-low : (d : Denial) → number d ≤ 16
number-low d = search rules

-- a denial, with the supplement that its number has
pub denial-sends : (version n : ℕ) (d : Denial) (old new sup : List ℕ) {x : Written} {r : Sent} → version ≤ 15
    → n ≡ number d → sup ≡ supplement_of version (number d) → 2048 ≤ length old
    → Does (denial_sent (record { version = version; status = n; supplement = sup }) old) x new → r ≡ sent_of x
    → Sends (denial version (number d)) r old new
denial-sends version n d old new sup h l e k y t =
    let a = denial-writable version (number d) h (omega (arith, number-low d)) in
    sends (denial version (number d)) a (writable-short (denial version (number d)) a) k (rw (l, e) at y) t

-- ---- a step of the store and its reply

-- the version that a unit's head has is the unit's
pub version-is : {u : State} {h : Head} {table pool : List ℕ} → Shows u h table pool → h.version ≡ u.version
version-is s = ap (λ (k : Head). k.version) s.head

module _ (u : State) (h : Head) (table pool : List ℕ) (s : Shows u h table pool) (w : Form) where
  -- denied, and not told yet
  pub step-denied : (body : b.Body) (step : Step) (e : Denial) (old after left : List ℕ)
      → Did step (Denied (number e)) h after left
      → Denies (stepped u w body step) h e old old after left
  step-denied body step e old after left d = rw (← d.answered)
      (record { says = rw (version-is s); area = refl; left = d.left })

  -- done, and so told: by the form of the command, its tag with the six ignored bits zero
  pub step-done : (B : Keyed → b.Body) (x : ℕ) (step : Step) (g : Head) (old new after left : List ℕ) (form : Form)
      (n : ℕ) (z : Written) (r : Sent)
      → Did step Allowed g after left → answer_writable (accepted (answer h.version w (B (named x)))) ≡ true
      → 2048 ≤ length old → form ≡ w → n ≡ bare x
      → Does (answer_sent (accepted (answer h.version form (B (n, Plain)))) old) z new → r ≡ sent_of z
      → Serves (stepped u w (B (named x)) step) (record { head = g; sent = r }) old new after left
  step-done B x step g old new after left form n z r d f k ef en y t =
      let a : Answer = accepted (answer h.version w (B (named x))) in
      rw (← d.answered) (record {
        sends = rw (version-is s) at (sends a f (writable-short a f) k (rw (ef, en) at y) t);
        left = d.left;
      })

-- the version of a sound unit
pub sound-version : (h : Head) (table pool : List ℕ) → Sound h table pool → h.version ≤ 15
sound-version h table pool s = omega (arith, ap (λ (k : Head). k.version) s.shown.head, s.shown.valid.low)
