-- What a caller of step learns from its answer, besides the outcome itself: where the octets used and the line written lie, that the count goes on, and that the unit
-- stays sound.
use Prim.Native.Nat.{ℕ, ◌+◌, ◌≤◌, ◌<◌}
use mathlib.Core.Path.{◌≡◌, refl, sym, ap, ◌∙◌}
use mathlib.Core.Bool.{Bool, true, false, cond}
use mathlib.Core.List.{List, [], ◌++◌}
use native.Mathlib.Omega.{arith}
use lib.ListN.{length, take, drop, length-append, length-drop}
use lib.Seq.{length-take-le}
use lib.Dec.{ltb}
use borrow.Author.Tests.{ltb-false}
use Rattle.store.specs.Model.{State, Shows, Sound}
use Rattle.records.specs.Turn.{Turned, more, answered, ended, turn}
use Rattle.records.specs.Entry.{Word, wants-more, used-written, closed, refusal, word_of, head_after, over, Out, out_of, step_out, Stepped}
use Rattle.std.specs.Prelude.{Option}
use Rattle.admission.specs.declared.Head.{Head}
use Rattle.records.specs.declared.Outcome.{Outcome}
use Rattle.records.proofs.Turns.{Means, turn-means}

-- with n answered before, `size` octets at hand, and an area of `room` octets written from a place on: the octets used are some of those at hand, the characters written
-- lie within the area, and more is wanted only if more may come and fewer octets are at hand than the longest record has
abbrev pub Learns : ℕ → Bool → ℕ → ℕ → ℕ → Word → Type 0
Learns n last size at room wants-more = (last ≡ false) × (size < 2053)
Learns n last size at room (used-written used written) = (n < 4294967295) × (0 < used) × (used ≤ size) × (at + written ≤ room)
Learns n last size at room (closed written) = at + written ≤ room
Learns n last size at room (refusal number) = Unit {0}

-- what stands over an area without making it longer lies within it
over-within : (old v : List ℕ) (at : ℕ) → at ≤ length old → length (over old at v) ≡ length old → at + length v ≤ length old
over-within old v at h e =
    omega (arith, length-append (take at old ++ v) (drop (at + length v) old), length-append (take at old) v, length-take-le at old h, length-drop (at + length v) old)

module _ (u : State) (n : ℕ) (last : Bool) (s old : List ℕ) (at : ℕ) where
  abbrev out_by : Bool → Turned → Out
  out_by b t = cond b (record { word = refusal 300; area = old; unit = u }) (out_of u old at t)

  by_turn : (b : Bool) (t : Turned) → ltb (length old) (at + 4108) ≡ b → Means u n last s [] t → length (out_by b t).area ≡ length old
      → Learns n last (length s) at (length old) (out_by b t).word
  by_turn true t e m h = tt
  by_turn false more e m h = m
  by_turn false (answered v used line) e m h = (m.0, m.1, m.2, over-within old line at (omega (arith, ltb-false (length old) (at + 4108) e)) h)
  by_turn false (ended lines) e m h = over-within old lines at (omega (arith, ltb-false (length old) (at + 4108) e)) h

module _ (n : ℕ) (last : Bool) (s old : List ℕ) (at : ℕ) (h : Head) (r : Option Outcome) (t p new table pool : List ℕ) where
  -- by the entry's promise, for a unit that is sound before
  module _ (sound : Sound h t p) (d : (u : State) → Shows u h t p → Stepped (step_out u n last s old at) h r new table pool) where
    -- an area keeps its length
    pub step-learns : length new ≡ length old → Learns n last (length s) at (length old) (word_of r)
    unfolding step_out
    step-learns e =
        let u = sound.unit in
        let o = d u sound.shown in
        rw o.says (by_turn u n last s old at (ltb (length old) (at + 4108)) (turn u n last s) refl (turn-means u n s [] last) (sym (ap length o.area) ∙ e))

    pub step-sound : Sound (head_after h r) table pool
    step-sound = record { unit = (step_out sound.unit n last s old at).unit; shown = (d sound.unit sound.shown).left }
