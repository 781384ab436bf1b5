use mathlib.Core.Path.{◌≡◌, refl, sym, ap, ◌∙◌}
use Prim.Native.Nat.{ℕ, ◌+◌, ◌*◌, ◌-◌, ◌%◌}
use native.Mathlib.Omega.{arith}
use Rattle.rows.specs.Row.{rows_in, scan}
use Rattle.rows.proofs.Rows.{scan-hit, scan-miss}
use Rattle.rows.proofs.find_row.Goals as goal
use Rattle.rows.proofs.find_row.Goals.{else-odd-eq1-via-then-odd-eq1+else-table-id, else-odd-eq1-via-else-odd-eq1}

pub returns-then-table-i-2 : goal.returns-then-table-i-2
returns-then-table-i-2 c =
    let t = c.args.table.now in
    let id = c.bare_tag-id.result in
    let i = c.min-n.result % 2 + c.loop-k.k * 2 in
    let left = rows_in t c.args.count - (i + 1) in
    sym (scan-hit t id (i + 1) left (omega arith) c.if-table-i-2.true)
    ∙ sym (scan-miss t id i _ (i + 1) left (omega arith) (omega arith) c.if-table-i.false) ∙ c.loop-k.invariant

pub loop-k-preserved : goal.loop-k-preserved
loop-k-preserved c =
    let t = c.args.table.now in
    let id = c.bare_tag-id.result in
    let i = c.min-n.result % 2 + c.loop-k.k * 2 in
    let left = rows_in t c.args.count - (i + 1) in
    sym (scan-miss t id (i + 1) left _ _ (omega arith) (omega arith) c.if-table-i-2.false)
    ∙ sym (scan-miss t id i _ (i + 1) left (omega arith) (omega arith) c.if-table-i.false) ∙ c.loop-k.invariant

pub loop-k-init : goal.loop-k-init
loop-k-init c =
    let t = c.args.table.now in
    let n = rows_in t c.args.count in
    let i = c.min-n.result % 2 + 0 in
    let e = c.bare_tag-id.ensures in
    elim c.else-odd-eq1.branch [
      | else-odd-eq1-via-then-odd-eq1+else-table-id w ↦
          sym (scan-miss t c.bare_tag-id.result 0 n i (n - i) (omega arith) (omega arith) w.if-table-id.false) ∙ ap (λ (x : ℕ). scan t x 0 n) e
      | else-odd-eq1-via-else-odd-eq1 w ↦
          let z : i ≡ 0 = omega arith in
          let m : n - i ≡ n = omega arith in
          rw (m, z, e) refl
    ]
