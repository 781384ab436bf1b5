use native.Mathlib.Omega.{arith}
use Rattle.tags.specs.Entry.{key}
use Rattle.responder.proofs.Walks.{walk-first, left-first, never-bad, walk-next, left-on, left-none}
use Rattle.responder.proofs.Chooses.{going_next, going-all}
use Rattle.responder.proofs.choose_each.Goals as goal

pub loop-init : goal.loop-init
loop-init c = record {
  few = omega arith;
  small = c.requires.room.1;
  walk = walk-first _ _ _ c.requires.list_ends;
  leads = λ u pool s k. record { holds = k; rest = rw (left-first (key c.args.form) c.args.s.now c.args.list) };
}

pub returns-in_default : goal.returns-in_default
returns-in_default c = absurd (never-bad _ _ _ c.loop.invariant.walk c.loop-test.true c.in_default.ensures.says)

pub loop-preserved : goal.loop-preserved
loop-preserved c =
    let w = c.loop.invariant.walk in
    let e = c.in-Ok.ensures in
    record {
      few = omega (arith, c.choose.ensures.few, c.loop.invariant.few);
      small = c.choose.ensures.small;
      walk = walk-next _ _ _ w c.loop-test.true _ e.says e.place;
      leads = λ u pool s k. going_next u _ _ _ _ _ _ _ _ _ _ (left-on _ _ _ w c.loop-test.true _ e.says)
          (c.read-held.ensures u pool s) c.choose.ensures (c.loop.invariant.leads u pool s k);
    }

pub returns : goal.returns
returns c = record {
  few = omega (arith, c.loop.invariant.few);
  chosen = λ u pool s k. going-all u _ _ _ _ _ (left-none _ _ _ c.loop.invariant.walk c.loop-test.false)
      (c.loop.invariant.leads u pool s k);
}
