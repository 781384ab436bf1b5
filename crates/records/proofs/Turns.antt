-- What a turn does is what the output says: for each of its three answers, whatever comes behind the octets at hand.
use Prim.Native.Nat.{ℕ, suc, ◌≤◌, ◌<◌}
use mathlib.Core.Path.{◌≡◌, refl, ◌∙◌}
use mathlib.Core.Bool.{Bool, true, false, cond}
use mathlib.Core.List.{List, [], ◌++◌, append-nil}
use native.Mathlib.Omega.{arith}
use lib.ListN.{length, drop}
use Rattle.store.specs.Model.{State}
use Rattle.records.specs.Record.{Front, nothing, wrong, cut, whole, front_after}
use Rattle.records.specs.Output.{end_lines, stop_lines, output_from}
use Rattle.records.specs.Turn.{Turned, more, answered, ended, turned_by, turn}
use Rattle.records.proofs.Fronts.{settled, Spans, spans, Counts, counts}
use Rattle.records.proofs.Outputs.{unrolled}

-- what a turn's answer means for the octets s at hand and any octets x behind them, of which there are none if s is the last:
-- more is wanted only if s is not the last, and is fewer octets than the longest record; a record's octets are some of s, and the output is its line and the output for
-- what is left; the closing lines are the output
abbrev pub Means : State → ℕ → Bool → List ℕ → List ℕ → Turned → Type 0
Means u n last s x more = (last ≡ false) × (length s < 2053)
Means u n last s x (answered v used line) = (n < 4294967295) × (0 < used) × (used ≤ length s) × (output_from u n (s ++ x) ≡ line ++ output_from v (suc n) (drop used s ++ x))
Means u n last s x (ended lines) = (last ≡ true → x ≡ []) → output_from u n (s ++ x) ≡ lines

module _ (u : State) (n : ℕ) (s x : List ℕ) where
  -- nothing at hand, or a cut record
  waits : (last : Bool) (f : Front) (lines : List ℕ) → length s < 2053 → output_from u n s ≡ lines → Means u n last s x (cond last (ended lines) more)
  waits true f lines h e = λ z. rw (z refl, append-nil s) e
  waits false f lines h e = (refl, h)

  means : (last : Bool) (f : Front) → front_after n s ≡ f → Spans 5 s f → Counts n f → Means u n last s x (turned_by u n last f)
  means last nothing e h k = waits last nothing (end_lines n) (omega arith) (unrolled u n s ∙ rw e)
  means last cut e h k = waits last cut (stop_lines n) (omega arith) (unrolled u n s ∙ rw e)
  means last wrong e h k = λ z. unrolled u n (s ++ x) ∙ rw (settled x n s (rw e tt), e)
  means last (whole p r t) e h k =
      (k, omega arith, omega (arith, h.1), unrolled u n (s ++ x) ∙ rw (settled x n s (rw e tt), e, h.2))

  -- each answer of turn means that
  pub turn-means : (last : Bool) → Means u n last s x (turn u n last s)
  unfolding turn
  turn-means last = means last (front_after n s) refl (spans n s) (counts n s)
