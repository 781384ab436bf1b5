use native.Mathlib.Omega.{arith}
use Rattle.octets.specs.declared.Form.TheVariants as f
use Rattle.tags.specs.Entry.{key}
use Rattle.responder.proofs.Walks.{walk-first, left-first, never-bad, walk-next, left-on, left-none}
use Rattle.responder.proofs.Tells.{telling-next, telling-all}
use Rattle.responder.proofs.tell_each.Goals as goal

pub loop-init : goal.loop-init
loop-init c = record {
  few = omega arith;
  walk = walk-first _ _ _ c.requires.list_ends;
  leads = λ u pool s. rw (left-first (key f.Plain) c.args.s.now c.args.list);
}

pub returns-in_default : goal.returns-in_default
returns-in_default c = absurd (never-bad _ _ _ c.loop.invariant.walk c.loop-test.true c.in_default.ensures.says)

pub loop-preserved : goal.loop-preserved
loop-preserved c =
    let w = c.loop.invariant.walk in
    let e = c.in-Ok.ensures in
    record {
      few = omega (arith, c.tell.ensures.few, c.loop.invariant.few);
      walk = walk-next _ _ _ w c.loop-test.true _ e.says e.place;
      leads = λ u pool s. telling-next u _ _ _ _ _ _ _ _ (left-on _ _ _ w c.loop-test.true _ e.says)
          (c.find.ensures u pool s) c.tell.ensures.told (c.loop.invariant.leads u pool s);
    }

pub returns : goal.returns
returns c = record {
  few = omega (arith, c.loop.invariant.few);
  told = λ u pool s. telling-all u _ _ _ (left-none _ _ _ c.loop.invariant.walk c.loop-test.false)
      (c.loop.invariant.leads u pool s);
}
