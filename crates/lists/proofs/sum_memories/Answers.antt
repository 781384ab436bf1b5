use Prim.Native.Nat.{◌+◌, ◌-◌, ◌≤◌}
use mathlib.Core.Path.{◌≡◌, refl}
use mathlib.Core.Bool.{false}
use mathlib.Core.Logic.{inl, inr}
use native.Mathlib.Omega.{arith}
use lib.ListN.{length, get_or}
use borrow.Author.Tests.{lt-leb}
use Rattle.octets.proofs.Lists.{every-not}
use Rattle.lists.specs.Handed.{inside_at}
use Rattle.lists.proofs.Handed.{inside-next, measured-next, measured-over}
use Rattle.lists.proofs.sum_memories.Goals as goal

pub returns-in_err-rest : goal.returns-in_err-rest
returns-in_err-rest c =
    let m = c.args.memories in
    let f : inside_at m.starts.now m.lengths.now m.src.now c.loop-i.i ≡ false = elim c.in_err-rest.ensures.lookup.0 [
      | inl h ↦ lt-leb (get_or m.starts.now c.loop-i.i 0 + get_or m.lengths.now c.loop-i.i 0) (length m.src.now) (omega arith)
      | inr h ↦ absurd (omega arith)
    ] in
    rw c.from_residual.ensures (inl (every-not (inside_at m.starts.now m.lengths.now m.src.now) (length m.keys.tags.now) c.loop-i.i (omega arith) f))

pub returns-in_err-piece : goal.returns-in_err-piece
returns-in_err-piece c =
    let m = c.args.memories in
    let s = c.in_ok-rest.ensures.lookup.0 in
    let f : inside_at m.starts.now m.lengths.now m.src.now c.loop-i.i ≡ false = elim c.in_err-piece.ensures.lookup.0 [
      | inl h ↦ absurd (omega arith)
      | inr h ↦ lt-leb (get_or m.starts.now c.loop-i.i 0 + get_or m.lengths.now c.loop-i.i 0) (length m.src.now) (omega (arith, s.3, h))
    ] in
    rw c.from_residual-in_err-piece.ensures (inl (every-not (inside_at m.starts.now m.lengths.now m.src.now) (length m.keys.tags.now) c.loop-i.i (omega arith) f))

pub returns-then-n-gt2048 : goal.returns-then-n-gt2048
returns-then-n-gt2048 c =
    let m = c.args.memories in
    let s = c.in_ok-rest.ensures.lookup.0 in
    let p = c.in_ok-piece.ensures.lookup.0 in
    let h : get_or m.lengths.now c.loop-i.i 0 ≤ length m.src.now - get_or m.starts.now c.loop-i.i 0 = omega (arith, s.3, p.1) in
    let g = measured-next m.keys.form m.keys.tags.now m.keys.passwords.now m.starts.now m.lengths.now m.src.now c.loop-i.i s.0 h c.loop-i.invariant.2 refl refl in
    inr (measured-over m.keys.form m.keys.tags.now m.keys.passwords.now m.starts.now m.lengths.now m.src.now c.loop-i.i (omega arith) (omega (arith, g, p.3)))

pub returns-then-size-gt2048 : goal.returns-then-size-gt2048
returns-then-size-gt2048 c =
    let m = c.args.memories in
    let s = c.in_ok-rest.ensures.lookup.0 in
    let p = c.in_ok-piece.ensures.lookup.0 in
    let h : get_or m.lengths.now c.loop-i.i 0 ≤ length m.src.now - get_or m.starts.now c.loop-i.i 0 = omega (arith, s.3, p.1) in
    let n : length c.in_ok-piece.piece.now ≡ get_or m.lengths.now c.loop-i.i 0 = omega (arith, p.3) in
    let g = measured-next m.keys.form m.keys.tags.now m.keys.passwords.now m.starts.now m.lengths.now m.src.now c.loop-i.i s.0 h c.loop-i.invariant.2 c.lock_size.ensures.0 (rw n at c.length_size.ensures.0) in
    inr (measured-over m.keys.form m.keys.tags.now m.keys.passwords.now m.starts.now m.lengths.now m.src.now c.loop-i.i (omega arith) (omega (arith, g, n)))

pub loop-i-preserved : goal.loop-i-preserved
loop-i-preserved c =
    let m = c.args.memories in
    let s = c.in_ok-rest.ensures.lookup.0 in
    let p = c.in_ok-piece.ensures.lookup.0 in
    let h : get_or m.lengths.now c.loop-i.i 0 ≤ length m.src.now - get_or m.starts.now c.loop-i.i 0 = omega (arith, s.3, p.1) in
    let n : length c.in_ok-piece.piece.now ≡ get_or m.lengths.now c.loop-i.i 0 = omega (arith, p.3) in
    let g = measured-next m.keys.form m.keys.tags.now m.keys.passwords.now m.starts.now m.lengths.now m.src.now c.loop-i.i s.0 h c.loop-i.invariant.2 c.lock_size.ensures.0 (rw n at c.length_size.ensures.0) in
    (inside-next m.keys.form m.keys.tags.now m.keys.passwords.now m.starts.now m.lengths.now m.src.now c.loop-i.i s.0 h c.loop-i.invariant.0, c.if-size-gt2048.false, rw n g)
