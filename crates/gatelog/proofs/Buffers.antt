-- Laws of the buffers: what goes to the front of the input buffer stays there while more is read behind it; when nothing was read; and what is learnt of the octets at hand.
use Prim.Native.Nat.{ℕ, ◌+◌, ◌-◌, ◌≤◌}
use mathlib.Core.Path.{◌≡◌, refl, sym, ap, ◌∙◌}
use mathlib.Core.Bool.{Bool, true, false}
use mathlib.Core.List.{List}
use native.Mathlib.Omega.{arith}
use native.Mathlib.Nat.{zero-add}
use lib.ListN.{length, take, drop, length-drop}
use lib.Seq.{length-take-le}
use lib.Dec.{eqb}
use borrow.Author.Tests.{eqb-true, eqb-false, eq-eqb, ne_eqb}
use borrow.Rule.Slice.PartMut.{put_mid, take_put}
use Rattle.std.specs.List.{copy_within}
use Rattle.std.specs.Prelude.{Option}
use Rattle.std.proofs.lemmas.List.Edits.{take-paste, length-paste}
use Rattle.store.specs.Model.{State, Shows, Sound}
use Rattle.records.specs.Entry.{word_of, step_out, Stepped}
use Rattle.records.specs.declared.Outcome.{Outcome}
use Rattle.records.proofs.Callers.{Learns, step-learns}
use Rattle.gatelog.specs.declared.Place.{Place}
use Rattle.gatelog.specs.Place.{Within, at_hand}

-- the octets from a to b, copied to the front, and others read behind them
pub front-held : (old moved got : List ℕ) (a b k : ℕ) → a ≤ b → b ≤ length old → moved ≡ copy_within old a b 0 → take (b - a) (put_mid (b - a) k moved got) ≡ take (b - a) (drop a old)
front-held old moved got a b k h l e =
    let n = b - a in
    let m : n ≤ length (drop a old) = rw length-drop (omega arith) in
    let f : length moved ≡ length old = ap length e ∙ length-paste old 0 (drop a old) n (omega arith) m in
    take_put n k moved got (omega arith) ∙ ap (take n) e ∙ ap (λ (i : ℕ). take i (copy_within old a b 0)) (sym (zero-add n)) ∙ take-paste old 0 (drop a old) n (omega arith) m

-- none was read if the end is where it was
pub none_read : (n k : ℕ) → eqb k 0 ≡ eqb (n + k) n
none_read n k = go (eqb k 0) refl
  where
    go : (b : Bool) → eqb k 0 ≡ b → b ≡ eqb (n + k) n
    go true e = let z = eqb-true k 0 e in sym (eq-eqb (n + k) n (omega arith))
    go false e = sym (ne_eqb (n + k) n (λ q. eqb-false k 0 e (omega arith)))

-- what a step on the octets at hand tells of the places
pub hand-learns : {p : Place} {input out : List ℕ} {r : Option Outcome} {t q new table pool : List ℕ} → Within p input out → Sound p.head t q
    → ((u : State) → Shows u p.head t q → Stepped (step_out u p.answered p.last (at_hand p input) out p.filled) p.head r new table pool)
    → length new ≡ length out → Learns p.answered p.last (p.end - p.start) p.filled (length out) (word_of r)
hand-learns {p} {input} {out} {r} {t} {q} {new} {table} {pool} w s d e =
    let z : length (at_hand p input) ≡ p.end - p.start = length-take-le (p.end - p.start) (drop p.start input) (rw length-drop (omega (arith, w.inside))) in
    rw z at (step-learns p.answered p.last (at_hand p input) out p.filled p.head r t q new table pool s d e)
