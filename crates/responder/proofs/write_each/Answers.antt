use native.Mathlib.Omega.{arith}
use Rattle.tags.specs.Entry.{memory}
use Rattle.responder.proofs.Walks.{walk-first, left-first, never-bad, walk-next, left-on, left-none}
use Rattle.responder.proofs.Writes.{next, next-sound, end}
use Rattle.responder.proofs.write_each.Goals as goal

pub loop-init : goal.loop-init
loop-init c = record {
  few = omega arith;
  sound = c.requires.sound;
  walk = walk-first _ _ _ c.requires.list_ends;
  leads = λ u s. record { unit = u; shown = s; leads = rw (left-first (memory c.args.form) c.args.s.now c.args.list) };
}

pub returns-in_default : goal.returns-in_default
returns-in_default c = absurd (never-bad _ _ _ c.loop.invariant.walk c.loop-test.true c.in_default.ensures.says)

pub loop-preserved : goal.loop-preserved
loop-preserved c =
    let w = c.loop.invariant.walk in
    let e = c.in-Ok.ensures in
    record {
      few = omega (arith, c.note.ensures.few, c.loop.invariant.few);
      sound = next-sound _ _ _ _ _ _ _ _ _ _ c.write-written.ensures c.loop.invariant.sound;
      walk = walk-next _ _ _ w c.loop-test.true _ e.says e.place.1;
      leads = λ u s. next _ _ _ _ _ _ _ _ _ _ c.write-written.ensures (c.loop.invariant.leads u s)
          (left-on _ _ _ w c.loop-test.true _ e.says) c.part-src.ensures c.note.ensures.noted;
    }

pub returns : goal.returns
returns c = record {
  few = omega (arith, c.loop.invariant.few);
  written = λ u s. end _ _ _ _ _ _ _ (left-none _ _ _ c.loop.invariant.walk c.loop-test.false)
      (c.loop.invariant.leads u s);
}
