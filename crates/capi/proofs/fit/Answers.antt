use mathlib.Core.Path.{refl, sym, ap, ◌∙◌}
use Rattle.std.proofs.lemmas.Result.{err_from_is_err_and}
use Rattle.store.specs.Model.{head_of}
use Rattle.capi.specs.Slices.{Slices, slices, head_words}
use Rattle.capi.proofs.Units
use Rattle.capi.proofs.fit.Goals as goal

pub returns-in_err-mode : goal.returns-in_err-mode
returns-in_err-mode c =
    let x : Slices = slices c.args.head.now c.args.table.now c.args.memory.now in
    let m = Units.is-high _ _ _ c.in_err-mode.ensures in
    Units.fits-barred c.args.mode _ x _ 16 (Units.high-line 16 x _ m.0) (Units.handed _ _ _ c.from_residual.ensures m.1)

pub returns-in_err-are_lent : goal.returns-in_err-are_lent
returns-in_err-are_lent c =
    let x : Slices = slices c.args.head.now c.args.table.now c.args.memory.now in
    let m = Units.is-low _ _ _ c.in_ok-mode.ensures in
    let l = Units.is-unlent _ _ c.in_err-are_lent.ensures in
    Units.fits-barred c.args.mode _ x _ 300 (Units.unlent-line 16 x _ m.0 l.0) (Units.handed _ _ _ c.from_residual-in_err-are_lent.ensures l.1)

pub returns-in_err-left : goal.returns-in_err-left
returns-in_err-left c =
    let x : Slices = slices c.args.head.now c.args.table.now c.args.memory.now in
    let m = Units.is-low _ _ _ c.in_ok-mode.ensures in
    let l = Units.is-lent _ _ c.in_ok-are_lent.ensures in
    let p = err_from_is_err_and c.from_residual-in_err-left.result c.from_residual-in_err-left.ensures.1 in
    Units.fits c.args.mode _ x _ _ (Units.no_line 16 x _ m.0 l) (λ u k. let h = c.head_of-unit.ensures (head_of u) k.kind k.words in rw (← m.1, ← c.access_of-lock.ensures) (Units.does-fit u _ _ _ _ _ _ x _ _ _ _ k (c.in_err-left.ensures u (rw h k.shown)) (k.words ∙ ap head_words (sym h)) (rw (p.1, p.2) refl)))

pub returns : goal.returns
returns c =
    let x : Slices = slices c.args.head.now c.args.table.now c.args.memory.now in
    let m = Units.is-low _ _ _ c.in_ok-mode.ensures in
    let l = Units.is-lent _ _ c.in_ok-are_lent.ensures in
    Units.fits c.args.mode _ x _ _ (Units.no_line 16 x _ m.0 l) (λ u k. let h = c.head_of-unit.ensures (head_of u) k.kind k.words in rw (← m.1, ← c.access_of-lock.ensures) (Units.does-fit u _ _ _ _ _ _ x _ _ _ _ k (c.in_ok-left.ensures u (rw h k.shown)) c.put_head.ensures refl))
