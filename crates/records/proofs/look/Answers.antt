-- `look`: a record is what its tests say (Fronts, `look-whole`); each other way out is one of the laws `looks`.
use native.Mathlib.Omega.{arith}
use Prim.Native.Nat.{ℕ, ◌+◌, ◌-◌, ◌*◌, ◌≤◌}
use mathlib.Core.Path.{◌≡◌, ◌∙◌}
use mathlib.Core.List.{List}
use lib.ListN.{length, take, drop, get_or, length-drop}
use lib.Seq.{take_all, length-take-le, drop-drop, get_or-drop}
use Rattle.records.specs.Record.{port_of}
use Rattle.records.proofs.Fronts.{look-whole}
use Rattle.records.proofs.look.Goals as goal

-- behind the first n octets stands what is behind them
behind : (n : ℕ) (s : List ℕ) → take (length s - n) (drop n s) ≡ drop n s
behind n s = take_all (length s - n) (drop n s) (rw length-drop (omega arith))

pub returns : goal.returns
returns c =
    let s = c.args.s.now in
    let m = c.from-len.result in
    let e : m ≡ get_or s 3 0 * 256 + get_or s 4 0 = c.from-len.ensures ∙ simp (drop-drop, get_or-drop) at (simp behind at c.from_be_bytes.ensures) in
    let p : c.port_of.result ≡ port_of (get_or s 2 0) = simp (drop-drop, get_or-drop) at (simp behind at c.port_of.ensures) in
    let b : m ≤ length s - 5 = simp (drop-drop, length-drop) at (simp behind at c.if-behind-len.false) in
    let l : length (take m (drop 5 s)) ≡ m = length-take-le m (drop 5 s) (rw length-drop (omega arith)) in
    simp behind (simp (drop-drop, l) (grind (arith, look-whole)))
