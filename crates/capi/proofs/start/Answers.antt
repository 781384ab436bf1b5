use mathlib.Core.Path.{refl, ap, ◌∙◌}
use Rattle.capi.specs.Slices.{Slices, slices, head_words}
use Rattle.capi.proofs.Units
use Rattle.capi.proofs.start.Goals as goal

pub returns-in_err-new : goal.returns-in_err-new
returns-in_err-new c =
    let x : Slices = slices c.args.head.now c.args.table.now c.args.memory.now in
    let s = Units.start-none _ _ _ _ _ c.start.ensures c.in_err-new.ensures.value in
    Units.starts-barred _ _ _ x _ 301 (Units.high-line 301 x _ s.0) (Units.handed _ _ _ c.from_residual.ensures s.1)

pub returns-in_err-are_lent : goal.returns-in_err-are_lent
returns-in_err-are_lent c =
    let x : Slices = slices c.args.head.now c.args.table.now c.args.memory.now in
    let s = Units.start-some _ _ _ _ _ c.start.ensures c.in_ok-new.ensures.value in
    let l = Units.is-unlent _ _ c.in_err-are_lent.ensures in
    Units.starts-barred _ _ _ x _ 300 (Units.unlent-line 301 x _ s.0 l.0) (Units.handed _ _ _ c.from_residual-in_err-are_lent.ensures l.1)

pub returns : goal.returns
returns c =
    let x : Slices = slices c.args.head.now c.args.table.now c.args.memory.now in
    let s = Units.start-some _ _ _ _ _ c.start.ensures c.in_ok-new.ensures.value in
    let l = Units.is-lent _ _ c.in_ok-are_lent.ensures in
    Units.starts-made _ _ _ x _ _ s.0 l refl (c.put_head.ensures ∙ ap head_words s.1) (c.fill.ensures.after (λ y e. e)) (c.fill-2.ensures.after (λ y e. e))
