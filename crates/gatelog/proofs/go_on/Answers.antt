use mathlib.Core.Path.{◌≡◌}
use mathlib.Core.Bool.{Bool, true, false}
use native.Mathlib.Omega.{arith}
use Rattle.records.proofs.Callers.{step-sound}
use Rattle.gatelog.proofs.Buffers.{hand-learns}
use Rattle.gatelog.proofs.go_on.Goals as goal

-- a flag is not both
apart : {b : Bool} → b ≡ true → b ≡ false → ⊥
apart e f = cc

pub overflow_add-place : goal.overflow_add-place
overflow_add-place g c =
    let l = rw (c.in-Some.is, c.in-Answered.is) at (hand-learns c.requires.within c.requires.sound c.step.ensures c.step.auto.out) in
    record { fits = omega (arith, l.0) }

pub overflow_add-place-in-Answered : goal.overflow_add-place-in-Answered
overflow_add-place-in-Answered g c =
    let l = rw (c.in-Some.is, c.in-Answered.is) at (hand-learns c.requires.within c.requires.sound c.step.ensures c.step.auto.out) in
    record { fits = omega (arith, l.2, c.requires.within.order) }

pub overflow_add-place-in-Answered-2 : goal.overflow_add-place-in-Answered-2
overflow_add-place-in-Answered-2 g c =
    let l = rw (c.in-Some.is, c.in-Answered.is) at (hand-learns c.requires.within c.requires.sound c.step.ensures c.step.auto.out) in
    record { fits = omega (arith, l.3) }

pub read_more-requires : goal.read_more-requires
read_more-requires g c =
    let l = rw (c.in-Some.is, c.in-More.is) at (hand-learns c.requires.within c.requires.sound c.step.ensures c.step.auto.out) in
    let e = c.write_out-place.ensures.1 in
    let w = c.requires.within in
    (omega (arith, e.start, e.end, w.order), omega (arith, e.end, w.inside), omega (arith, e.start, e.end, l.1, c.requires.roomy.0))

pub overflow_add-place-in-Ended : goal.overflow_add-place-in-Ended
overflow_add-place-in-Ended g c =
    let l = rw (c.in-Some.is, c.in-Ended.is) at (hand-learns c.requires.within c.requires.sound c.step.ensures c.step.auto.out) in
    record { fits = omega (arith, l) }

pub write_out-requires-in-Ended : goal.write_out-requires-in-Ended
write_out-requires-in-Ended g c =
    let l = rw (c.in-Some.is, c.in-Ended.is) at (hand-learns c.requires.within c.requires.sound c.step.ensures c.step.auto.out) in
    omega (arith, l, c.step.auto.out)

pub returns-in-Answered-clause-kept : goal.returns-in-Answered-clause-kept
returns-in-Answered-clause-kept g c =
    let l = rw (c.in-Some.is, c.in-Answered.is) at (hand-learns c.requires.within c.requires.sound c.step.ensures c.step.auto.out) in
    let s = rw c.in-Some.is at (step-sound _ _ _ _ _ _ _ _ _ _ _ _ c.requires.sound c.step.ensures) in
    (s, record { order = omega (arith, l.2, c.requires.within.order); inside = c.requires.within.inside; room = omega (arith, l.3, c.step.auto.out) })

-- what waited is handed over, and then more is read
pub returns-then-place-clause-turn_taken : goal.returns-then-place-clause-turn_taken
returns-then-place-clause-turn_taken g c = λ u v.
    let d = c.step.ensures u v in
    let w = rw (c.in-Some.is, c.in-More.is) at d.says in
    let l = rw c.in-Some.is at d.left in
    let e = c.write_out-place.ensures in
    let b = e.1 in
    let m = c.read_more.ensures in
    record {
      places = rw (← w) (record {
        between = c.write_out-place.result;
        emptied = record { answered = b.answered; start = b.start; end = b.end; filled = b.filled; handed = b.handed; last = b.last };
        tried = e.2;
        refilled = λ q. m.1;
        left = λ q. absurd (apart c.if-place.true q);
      });
      lines = d.area;
      unit = rw (m.0, e.0) l;
    }
