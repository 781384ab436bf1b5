-- A bulk write, entry by entry: what is left of the list leads, from what was written so far, where the whole list leads from the unit at first.
use Prim.Native.Nat.{ℕ, ◌≤◌}
use mathlib.Core.Bool.{true}
use mathlib.Core.Path.{◌≡◌, refl, sym, ap, ◌∙◌}
use mathlib.Core.List.{List, [], ◌∷◌}
use lib.ListN.{length}
use Rattle.octets.specs.Area.{Written}
use Rattle.octets.specs.declared.Access.{Access}
use Rattle.octets.specs.declared.Form.{Form}
use Rattle.octets.specs.declared.Port.{Port}
use Rattle.tags.specs.Entry.{Keyed, Held}
use Rattle.answers.specs.Answer.{Answer, accepted, answer, answer_writable, answer_sent}
use Rattle.answers.specs.Answer as b
use Rattle.admission.specs.declared.Head.{Head}
use Rattle.admission.specs.Denial.{Verdict}
use Rattle.store.specs.Answers.{Did}
use Rattle.store.specs.Model.{State, Shows, Sound}
use Rattle.store.specs.Steps.{write_step}
use Rattle.responder.specs.Respond.{Writes, noted, all_writes, bulk_write_done}
use Rattle.responder.specs.Entry.{Sent, sent_of, Serves, Gives, Wrote}
use Rattle.responder.proofs.Sends.{sends, version-is}
use Rattle.responder.proofs.Writable.{writable-short}

-- at a turn: the unit that head, table and memory stand for, and what is left leads to the goal
pub record Rest (p : Port) (goal : Writes) (left : List Held) (names : List Keyed) (h : Head)
    (table pool : List ℕ) : Type 0 where
  pub unit : State
  pub shown : Shows unit h table pool
  pub leads : all_writes p (record { names = names; unit = unit }) left ≡ goal

-- before the first turn
pub begin : (p : Port) (u : State) (all left : List Held) (names : List Keyed) (h : Head) (table pool : List ℕ)
    → Shows u h table pool → left ≡ all → Rest p (all_writes p (record { names = names; unit = u }) all) left names h table pool
begin p u all left names h table pool s e = rw e (record { unit = u; shown = s; leads = refl })

module _ (p : Port) (h : Head) (table pool table' pool' : List ℕ) (x : ℕ) (a : Access) (xs : List ℕ) (v : Verdict)
    (w : (u : State) → Shows u h table pool → Did (write_step u x xs p a) v h table' pool') where
  -- one entry more
  pub next : {goal : Writes} {left rest : List Held} {names names' : List Keyed} {d : List ℕ}
      → Rest p goal left names h table pool
      → left ≡ ((x, a), d) ∷ rest → xs ≡ d → names' ≡ noted v x names → Rest p goal rest names' h table' pool'
  unfolding all_writes
  next {goal} {left} {rest} {names} {names'} {d} r e g f =
      let k = w r.unit r.shown in
      let q : left ≡ ((x, a), xs) ∷ rest = e ∙ ap (λ (y : List ℕ). ((x, a), y) ∷ rest) (sym g) in
      let n : names' ≡ noted (write_step r.unit x xs p a).answer x names = f ∙ ap (λ (b : Verdict). noted b x names)
      k.answered in
      record { unit = (write_step r.unit x xs p a).unit; shown = k.left; leads = rw n (rw q at r.leads) }

  -- and what is left is sound
  pub next-sound : Sound h table pool → Sound h table' pool'
  next-sound s = record { unit = (write_step s.unit x xs p a).unit; shown = (w s.unit s.shown).left }

-- behind the last
pub end : (p : Port) (goal : Writes) (left : List Held) (names : List Keyed) (h : Head) (table pool : List ℕ)
    → left ≡ [] → Rest p goal left names h table pool
    → Wrote goal names h table pool
unfolding all_writes
end p goal left names h table pool e r = let q = rw e at r.leads in rw (← q) (record { says = refl; left = r.shown })

-- the reply to a bulk write, with the names that were gathered
pub writes-served : (u : State) (h : Head) (table pool after left : List ℕ) (p : Port) (w : Form) (hs : List Held)
    (ns : List Keyed) {old new : List ℕ} {x : Written} {r : Sent}
    → Shows u h table pool → Wrote (all_writes p (record { names = []; unit = u }) hs) ns h after left
    → answer_writable (bulk_write_done u p w hs).reply ≡ true → 2048 ≤ length old
    → Gives h.version w (b.bulk_write ns) x old new → r ≡ sent_of x
    → Serves (bulk_write_done u p w hs) (record { head = h; sent = r }) old new after left
unfolding bulk_write_done
writes-served u h table pool after left p w hs ns s e f k y t =
    let a : Answer = (bulk_write_done u p w hs).reply in
    record { sends = sends a f (writable-short a f) k (rw (version-is s, e.says) at y) t; left = e.left }
