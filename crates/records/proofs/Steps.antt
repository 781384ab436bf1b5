-- Laws of the entry: each way out of the functions below it keeps its promise.
use Prim.Native.Nat.{ℕ, suc, ◌+◌, ◌-◌, ◌≤◌, ◌<◌}
use mathlib.Core.Path.{◌≡◌, refl, sym, ap, ◌∙◌}
use mathlib.Core.Bool.{Bool}
use mathlib.Core.List.{List}
use native.Mathlib.Omega.{arith}
use native.Mathlib.Numerals.{add-one}
use lib.ListN.{length, take, drop, length-append, length-take}
use lib.Seq.{take_at}
use borrow.Author.Tests.{lt-ltb, le-ltb}
use Rattle.octets.specs.Area.{Wrote}
use Rattle.octets.specs.declared.Port.{Port}
use Rattle.admission.specs.declared.Head.{Head}
use Rattle.answers.specs.Answer.{answer_octets}
use Rattle.store.specs.Model.{State, Shows}
use Rattle.responder.specs.Respond.{Result, silent, replied, respond}
use Rattle.responder.specs.Entry.{spoken}
use Rattle.responder.specs.Entry as e
use Rattle.responder.specs.declared.Reply.{Reply}
use Rattle.responder.specs.Entry.{Sent}
use Rattle.std.specs.Prelude.{Option, Some, None, unwrap_or}
use Rattle.records.specs.Text.{bad_words, answer_line}
use Rattle.records.specs.Record.{Front, whole, front_after}
use Rattle.records.specs.Output.{answer_to, end_lines, stop_lines}
use Rattle.records.specs.Turn.{more, ended, turned_by, turn}
use Rattle.records.specs.Entry.{used-written, closed, out_of, step_out, Stepped}
use Rattle.records.specs.declared.Turn.TheVariants as t
use Rattle.records.specs.declared.Outcome.{Outcome}
use Rattle.records.proofs.Text.{length-worded, wrote-over}

-- ---- closing

-- the closing lines are shorter than a record's line can be
pub length-end : (n : ℕ) → length (end_lines n) ≤ 19
length-end n = length-worded _ n

pub length-stop : (n : ℕ) → length (stop_lines n) ≤ 41
length-stop n = rw length-append (omega (arith, length-worded bad_words (suc n), length-end n))

-- ---- answering

-- what the responder says and writes are the octets of the answer
spoken-area : (o : Result) (r : Sent) (old area : List ℕ) → e.word_of r ≡ e.word_for o → area ≡ e.area_for o old → take (unwrap_or r 0) area ≡ spoken o
spoken-area (silent n) (Some m) old area w h = cc
spoken-area (silent n) None old area w h = refl
spoken-area (replied a) (Some m) old area w h =
    let z : m ≡ length (answer_octets a) = cc in
    ap (take m) h ∙ take_at (answer_octets a) (drop (length (answer_octets a)) old) m (sym z)
spoken-area (replied a) None old area w h = cc

-- an answer in an area of 2,048 octets, and its line, have room
pub length_part : (k : ℕ) (area : List ℕ) → length area ≡ 2048 → length (take k area) ≤ 2048
length_part k area h = rw length-take (omega arith)

module _ (u : State) (n : ℕ) (last : Bool) (s old : List ℕ) (at : ℕ) where
  -- the line of an answer is written
  pub answers : (p : Port) (r zeros area : List ℕ) (k len next : ℕ) (h : Head) (reply : Reply) {part new table pool : List ℕ} → k ≡ 2048
      → e.Responded (respond u p r k) reply zeros area table pool → len ≡ unwrap_or reply.sent 0 → part ≡ take len area
      → at + length (answer_line (n + 1) part) ≤ length old → Wrote old at (answer_line (n + 1) part) new next
      → Stepped (out_of u old at (turned_by u n last (whole p r s))) h (Some (record { head = reply.head; turn = t.Answered (5 + length r) (next - at) })) new table pool
  answers p r zeros area k len next h reply {part} {new} {table} {pool} f d l q g w =
      let b = rw f at d in
      let x : part ≡ answer_to u p r = q ∙ ap (λ (j : ℕ). take j area) l ∙ spoken-area (respond u p r 2048).result reply.sent zeros area b.says b.area in
      let v = rw (x, add-one n) at (wrote-over g w) in
      record { says = ap (used-written (5 + length r)) v.1; area = v.0; left = b.left }

-- ---- a turn

module _ (u : State) (n : ℕ) (last : Bool) (s old : List ℕ) (at : ℕ) where
  -- what is done is told by what stands at the front
  pub turns : (f : Front) {h : Head} {r : Option Outcome} {new table pool : List ℕ} → f ≡ front_after n s → Stepped (out_of u old at (turned_by u n last f)) h r new table pool
      → Stepped (out_of u old at (turn u n last s)) h r new table pool
  unfolding turn
  turns f e d = rw (← e) d

  -- the lines that close the log are written
  pub turns-ended : (f : Front) (lines : List ℕ) {h : Head} {new table pool : List ℕ} {p : ℕ} → f ≡ front_after n s → turned_by u n last f ≡ ended lines
      → at + length lines ≤ length old → Wrote old at lines new p → Shows u h table pool
      → Stepped (out_of u old at (turn u n last s)) h (Some (record { head = h; turn = t.Ended (p - at) })) new table pool
  turns-ended f lines e g l w v =
      let o = wrote-over l w in
      turns f e (rw g (record { says = ap closed o.1; area = o.0; left = v }))

  -- more octets are wanted
  pub turns-more : (f : Front) {h : Head} {table pool : List ℕ} → f ≡ front_after n s → turned_by u n last f ≡ more → Shows u h table pool
      → Stepped (out_of u old at (turn u n last s)) h (Some (record { head = h; turn = t.More })) old table pool
  turns-more f e g v = turns f e (rw g (record { says = refl; area = refl; left = v }))

  -- 300, or a turn
  pub steps-not : {h : Head} {table pool : List ℕ} → length old < at + 4108 → Shows u h table pool → Stepped (step_out u n last s old at) h None old table pool
  unfolding step_out
  steps-not g v = rw (lt-ltb _ _ g) (record { says = refl; area = refl; left = v })

  pub steps : {h : Head} {r : Option Outcome} {new table pool : List ℕ} → at + 4108 ≤ length old → Stepped (out_of u old at (turn u n last s)) h r new table pool
      → Stepped (step_out u n last s old at) h r new table pool
  unfolding step_out
  steps g d = rw (le-ltb _ _ g) d
