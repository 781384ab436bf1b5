use mathlib.Core.Path.{ap}
use Rattle.capi.specs.Result.{number_of}
use Rattle.store.specs.Model.{head_of}
use Rattle.capi.specs.Slices.{Slices, slices}
use Rattle.capi.proofs.Short.{respond-sent-short}
use Rattle.capi.proofs.Units
use Rattle.capi.proofs.respond.Goals as goal

pub returns-in_err-are_lent : goal.returns-in_err-are_lent
returns-in_err-are_lent c =
    let x : Slices = slices c.args.head.now c.args.table.now c.args.memory.now in
    let p = Units.is-low _ _ _ c.in_ok-port.ensures in
    let l = Units.is-unlent _ _ c.in_err-are_lent.ensures in
    Units.responds-barred c.args.port c.args.request.now x c.args.answer.now _ 300 (Units.unlent-line 16 x _ p.0 l.0) (Units.handed _ _ _ c.from_residual-in_err-are_lent.ensures l.1)

pub respond-reply-requires : goal.respond-reply-requires
respond-reply-requires c =
    let k = c.requires.stands (Units.is-lent _ _ c.in_ok-are_lent.ensures) in
    Units.held-sound k.unit _ k.holds _ (c.head_of.ensures (head_of k.unit) k.holds.kind k.holds.words)

pub of_sent-requires : goal.of_sent-requires
of_sent-requires c =
    let k = c.requires.stands (Units.is-lent _ _ c.in_ok-are_lent.ensures) in
    respond-sent-short k.unit _ c.args.request.now c.args.answer.now _ _ _ _ k.holds.shown.valid (λ j. (c.type_inv.request j).fits) (c.respond-reply.ensures k.unit (rw (c.head_of.ensures (head_of k.unit) k.holds.kind k.holds.words) k.holds.shown))

pub returns : goal.returns
returns c =
    let x : Slices = slices c.args.head.now c.args.table.now c.args.memory.now in
    let p = Units.is-low _ _ _ c.in_ok-port.ensures in
    let l = Units.is-lent _ _ c.in_ok-are_lent.ensures in
    Units.responds c.args.port c.args.request.now x c.args.answer.now _ _ _ (Units.no_line 16 x _ p.0 l) (λ u k. rw (← p.1) (Units.answers u _ c.args.request.now c.args.answer.now _ x _ c.respond-reply.result _ k (c.respond-reply.ensures u (rw (c.head_of.ensures (head_of u) k.kind k.words) k.shown)) c.put_head.ensures (ap number_of c.of_sent.ensures)))
