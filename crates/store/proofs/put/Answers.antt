use mathlib.Core.Path.{◌≡◌, ap, ◌∙◌}
use mathlib.Core.List.{List}
use Prim.Native.Nat.{ℕ, ◌+◌, ◌-◌}
use native.Mathlib.Omega.{arith}
use lib.ListN.{length, replicate}
use lib.Seq.{sets}
use Rattle.octets.proofs.Areas.{laid-holds}
use Rattle.store.specs.Raw.{overwritten}
use Rattle.store.proofs.put.Goals as goal

pub returns : goal.returns
unfolding overwritten
returns c =
    let pool = c.args.pool.now in
    let xs = c.args.src.now in
    let at = c.args.slot.at in
    let n = at + length xs in
    let end = at + c.args.slot.held in
    let e : end - n ≡ c.args.slot.held - length xs = omega arith in (
      c.put_held.ensures,
      c.clear.ensures
          ∙ ap (λ (d : List ℕ). sets d n (replicate (end - n) 0)) (laid-holds pool at xs c.requires.0 c.copy.ensures)
          ∙ ap (λ (j : ℕ). sets (sets pool at xs) n (replicate j 0)) e,
    )
