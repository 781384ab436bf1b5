use Prim.Native.Nat.{◌-◌}
use mathlib.Core.Path.{◌≡◌, ◌∙◌}
use native.Mathlib.Omega.{arith}
use lib.ListN.{drop}
use Rattle.std.proofs.lemmas.Result.{err_from_is_err_and}
use Rattle.octets.proofs.Places.{walk-bad, walk-on}
use Rattle.octets.proofs.Walks.{walked_to, walked-bad, list-walked}
use Rattle.octets.proofs.read_list.Goals as goal

pub returns-in_err-place : goal.returns-in_err-place
returns-in_err-place g c =
    let L = g.E.Entry.layout c.args.entry in
    let r = err_from_is_err_and c.from_residual-in_err-place.result c.from_residual-in_err-place.ensures.1 in
    rw (r.1, r.2) (list-walked L c.args.s.now c.in_ok-count.ensures (walked-bad L c.args.s.now _ _ _ (c.loop.invariant.1 ∙ walk-bad L _ c.loop.counter (drop c.loop.place c.args.s.now) (omega arith) _ c.in_err-place.ensures.says)))

pub loop-preserved : goal.loop-preserved
loop-preserved g c =
    let L = g.E.Entry.layout c.args.entry in
    (c.in_ok-place.ensures.place, c.loop.invariant.1 ∙ walk-on L c.in_ok-count.field-0.value c.loop.counter (drop c.loop.place c.args.s.now) (omega arith) (g.E.Entry.shown c.args.entry c.args.s.now c.in_ok-place.field-0.value) (drop c.in_ok-place.field-0.next c.args.s.now) c.in_ok-place.ensures.says)

pub returns : goal.returns
returns g c =
    let L = g.E.Entry.layout c.args.entry in
    let q : c.in_ok-count.field-0.value - c.loop.counter ≡ 0 = omega arith in
    list-walked L c.args.s.now c.in_ok-count.ensures (walked_to L c.args.s.now _ _ c.loop.place c.in_ok-count.ensures.place.1 c.loop.invariant.0 (rw q at c.loop.invariant.1))
