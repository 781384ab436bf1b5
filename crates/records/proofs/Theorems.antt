-- The theorems of this crate: what each answer of a turn says of the output, that the output does not depend on how the input is cut into pieces, the limit of the
-- count, and numbers in decimal. Document 01, 'The gate log program'.
use Prim.Native.Nat.{ℕ, zero, suc, ◌+◌, ◌≤◌, ◌<◌}
use mathlib.Core.Path.{◌≡◌, refl, sym, ap, ◌∙◌}
use mathlib.Core.Bool.{Bool, true, false}
use mathlib.Core.List.{List, [], ◌∷◌, ◌++◌, append_assoc, flatten}
use native.Mathlib.Omega.{arith}
use lib.ListN.{length, drop, get_or, length-append, length-drop}
use borrow.Author.Tests.{le-ltb}
use Rattle.octets.specs.declared.Port.{Port}
use Rattle.answers.specs.Answer.{Answer}
use Rattle.store.specs.Model.{State, Valid}
use Rattle.responder.specs.Respond.{replied, handled, respond}
use Rattle.records.specs.Text.{decimal, bad_record, records}
use Rattle.records.specs.Output.{output_from, output, first_unit}
use Rattle.records.specs.Turn.{Turned, more, answered, ended, turn}
use Rattle.records.specs.Loop.{goes_on, driven_from, driven}
use Rattle.records.proofs.Text.{read_on, digits-read, digits-first}
use Rattle.records.proofs.Fronts.{look-late}
use Rattle.records.proofs.Outputs.{unrolled}
use Rattle.records.proofs.Turns.{Means, turn-means}

-- ---- a turn

module _ (u : State) (n : ℕ) (last : Bool) (s : List ℕ) where
  -- a record is answered: its line, and then the output for what is left of the octets and whatever comes behind
  pub turn-answered : (v : State) (used : ℕ) (line x : List ℕ) → turn u n last s ≡ answered v used line → output_from u n (s ++ x) ≡ line ++ output_from v (suc n) (drop used s ++ x)
  turn-answered v used line x e = (rw e at (turn-means u n s x last)).3

  -- it takes some of the octets at hand, and is one of the first 4,294,967,295
  pub turn-uses : (v : State) (used : ℕ) (line : List ℕ) → turn u n last s ≡ answered v used line → (n < 4294967295) × (0 < used) × (used ≤ length s)
  turn-uses v used line e = let m = rw e at (turn-means u n s [] last) in (m.0, m.1, m.2)

  -- the log is closed: the lines are the output, whatever comes behind
  pub turn-ended : (lines x : List ℕ) → (last ≡ true → x ≡ []) → turn u n last s ≡ ended lines → output_from u n (s ++ x) ≡ lines
  turn-ended lines x h e = (rw e at (turn-means u n s x last)) h

  -- more is wanted only while more may come, and only of fewer octets than the longest record has
  pub turn_more : turn u n last s ≡ more → (last ≡ false) × (length s < 2053)
  turn_more e = rw e at (turn-means u n s [] last)

-- a unit that is in order has an answer to every record
pub always-answered : (u : State) (p : Port) (r : List ℕ) → Valid u → (a : Answer) × ((respond u p r 2048).result ≡ replied a)
unfolding respond
always-answered u p r v = ((handled u p r).reply, rw (le-ltb 2048 u.limits.message (omega (arith, v.shared.message))))

-- ---- however the input is cut

-- a turn more while more may come
abbrev waits : Bool → ℕ
waits true = 0
waits false = 1

-- how many turns there can be
abbrev turns_for : Bool → List ℕ → List (List ℕ) → ℕ
turns_for last held xs = length held + length (flatten xs) + length xs + waits last

-- the loop goes on as the output does
goes-on : (k : ℕ) (u : State) (n : ℕ) (last : Bool) (held : List ℕ) (xs : List (List ℕ)) (t : Turned) → Means u n last held (flatten xs) t → (last ≡ true → xs ≡ [])
    → turns_for last held xs < suc k
    → ((v : State) (m : ℕ) (l : Bool) (g : List ℕ) (ys : List (List ℕ)) → (l ≡ true → ys ≡ []) → turns_for l g ys < k → driven_from k v m l g ys ≡ output_from v m (g ++ flatten ys))
    → goes_on (driven_from k) u n last held xs t ≡ output_from u n (held ++ flatten xs)
unfolding flatten
goes-on k u n last held xs (ended lines) m z h f = sym (m (λ e. ap flatten (z e)))
goes-on k u n last held xs (answered v used line) m z h f =
    ap (λ (l : List ℕ). line ++ l) (f v (suc n) last (drop used held) xs z (omega (arith, length-drop used held, m.1, m.2))) ∙ sym m.3
goes-on k u n last held [] more m z h f =
    let w : waits last ≡ 1 = ap waits m.0 in
    f u n true held [] (λ e. refl) (omega arith)
goes-on k u n last held (y ∷ ys) more m z h f =
    f u n last (held ++ y) ys (λ e. cc m.0) (omega (arith, length-append held y, length-append y (flatten ys)))
    ∙ ap (output_from u n) (append_assoc held y (flatten ys))

driven-output : (k : ℕ) (u : State) (n : ℕ) (last : Bool) (held : List ℕ) (xs : List (List ℕ)) → (last ≡ true → xs ≡ []) → turns_for last held xs < k
    → driven_from k u n last held xs ≡ output_from u n (held ++ flatten xs)
unfolding driven_from
driven-output zero u n last held xs z h = absurd (omega arith)
driven-output (suc k) u n last held xs z h =
    goes-on k u n last held xs (turn u n last held) (turn-means u n held (flatten xs) last) z h (λ v m l g ys. driven-output k v m l g ys)

-- however the input is cut into pieces, the loop prints the output for the whole of it, if it has a turn for each octet and each piece and two more
pub pieces : (turns : ℕ) (xs : List (List ℕ)) → length (flatten xs) + length xs + 2 ≤ turns → driven turns xs ≡ output (flatten xs)
unfolding driven output
pieces turns xs h = driven-output turns first_unit 0 false [] xs (λ e. cc) (omega arith)

-- ---- the limit of the count

-- with 4,294,967,295 records answered any octet ends the log: it is of a bad record, the 4,294,967,296th
pub limit : (u : State) (a : ℕ) (s : List ℕ) → output_from u 4294967295 (a ∷ s) ≡ bad_record 4294967296 ++ records 4294967295
limit u a s = unrolled u 4294967295 (a ∷ s) ∙ rw (look-late 4294967295 (a ∷ s) (omega arith) (omega arith))

-- ---- numbers

-- a number that is printed reads as that number
pub decimal-reads : (n : ℕ) → n ≤ 4294967296 → read_on 0 (decimal n) ≡ n
unfolding decimal
decimal-reads n h = digits-read 10 n (omega arith)

-- and its first digit is no zero, but for the number 0
pub decimal-first : (n : ℕ) → 0 < n → n ≤ 4294967296 → 48 < get_or (decimal n) 0 0
unfolding decimal
decimal-first n p h = digits-first 10 n p (omega arith)
