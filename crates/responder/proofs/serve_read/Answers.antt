use Prim.Native.Nat.{ℕ, ◌+◌, ◌-◌}
use mathlib.Core.Path.{◌≡◌, ap}
use native.Mathlib.Omega.{arith}
use lib.ListN.{take, drop}
use Rattle.store.proofs.Ways.{handed}
use Rattle.responder.proofs.Shown.{read-denied, read-done}
use Rattle.responder.proofs.serve_read.Goals as goal

pub overflow_add-src : goal.overflow_add-src
overflow_add-src c = record {
  fits = omega (
    arith,
    (c.in_ok-start.ensures c.requires.sound.unit c.args.pool.now c.requires.sound.shown).place.0,
  );
}

pub slice_bounds-src-end : goal.slice_bounds-src-end
slice_bounds-src-end c = omega (
  arith,
  (c.in_ok-start.ensures c.requires.sound.unit c.args.pool.now c.requires.sound.shown).place.0,
)

pub returns-in_err-start : goal.returns-in_err-start
returns-in_err-start c = λ u s. rw (handed _ _ c.from_residual.ensures)
    (read-denied u _ _ _ s _ _ _ _ _ _ (c.in_err-start.ensures u _ s))

pub returns : goal.returns
returns c = λ u s.
    let i = c.in_ok-start.field-0 in
    let q : i.start + i.len - i.start ≡ i.len = omega arith in
    read-done u _ _ _ s _ _ _ _ i _ _ _ _ _ _ _ (c.in_ok-start.ensures u _ s) c.form_of-form.ensures.0
    c.bare_tag-bare.ensures (ap (λ (n : ℕ). take n (drop i.start c.args.pool.now)) q) c.ranges.tag.fits
    c.requires.room c.write_read-written.ensures c.told.ensures
