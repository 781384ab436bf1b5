use mathlib.Core.Path.{sym, ap, ◌∙◌}
use Prim.Native.Nat.{◌/◌, ◌≤◌}
use native.Mathlib.Omega.{arith}
use lib.ListN.{get_or}
use Rattle.octets.specs.declared.Span.{Span}
use Rattle.octets.proofs.Places.{end-there}
use Rattle.requests.proofs.Readings.{handed, at-end, not-end}
use Rattle.answers.proofs.Denials.{denial-two, denial-fill, denial-mark, denial-read, denial-refused, past-supplement, supplement-bad, supplement-behind}
use Rattle.answers.proofs.read_denial.Goals as goal

pub returns-in_default : goal.returns-in_default
returns-in_default c = absurd (omega (arith, denial-two c.args.s.now c.requires))

pub returns-then-fill_of-ne0 : goal.returns-then-fill_of-ne0
returns-then-fill_of-ne0 c =
    denial-refused (rw (denial-fill c.args.s.now (omega arith) (λ z. c.if-fill_of-ne0.true (c.fill_of.ensures ∙ z))))

pub returns-in_err-value : goal.returns-in_err-value
returns-in_err-value c =
    let e = c.in_err-value.ensures in
    rw (handed c.from_residual.ensures.1)
    (denial-refused (rw (denial-mark c.args.s.now (sym c.fill_of.ensures ∙ c.if-fill_of-ne0.false) c.requires, ← e.says)))

pub returns-in_err-read_data : goal.returns-in_err-read_data
returns-in_err-read_data c =
    let e = c.in_err-read_data.ensures in
    rw (handed c.from_residual-in_err-read_data.ensures.1)
    (denial-refused
    (rw (denial-read c.args.s.now (sym c.fill_of.ensures ∙ c.if-fill_of-ne0.false) c.requires c.in_ok-value.ensures, ← e.says)))

pub returns-in_err-supplement : goal.returns-in_err-supplement
returns-in_err-supplement c =
    let b = not-end c.in_ok-read_data.ensures c.in_err-supplement.ensures in
    rw (handed c.from_residual-in_err-supplement.ensures.1, b.0)
    (denial-refused
    (rw (denial-read c.args.s.now (sym c.fill_of.ensures ∙ c.if-fill_of-ne0.false) c.requires c.in_ok-value.ensures)
    (supplement-behind _ _ _ c.in_ok-read_data.ensures b.1)))

pub returns-then-supplement-gt127 : goal.returns-then-supplement-gt127
returns-then-supplement-gt127 c =
    let b = at-end c.in_ok-read_data.ensures c.in_ok-supplement.ensures in
    denial-refused (rw (
      denial-read c.args.s.now (sym c.fill_of.ensures ∙ c.if-fill_of-ne0.false) c.requires c.in_ok-value.ensures,
      supplement-bad (get_or c.args.s.now 0 0 / 16) _ _ c.in_ok-read_data.ensures
          (omega (arith, ap (λ (p : Span). p.len) b.0)),
    ))

pub returns : goal.returns
returns c =
    let b = at-end c.in_ok-read_data.ensures c.in_ok-supplement.ensures in
    let e = c.in_ok-read_data.ensures in
    let n : c.in_ok-read_data.field-0.value.len ≤ 127 = omega (arith, ap (λ (p : Span). p.len) b.0) in
    record {
      says = rw (
        b.0,
        denial-read c.args.s.now (sym c.fill_of.ensures ∙ c.if-fill_of-ne0.false) c.requires c.in_ok-value.ensures,
        past-supplement (get_or c.args.s.now 0 0 / 16) _ _ e n,
        end-there c.args.s.now _ c.in_ok-read_data.field-0.next b.1,
        c.version_of.ensures,
      );
      place = rw (b.0, c.version_of.ensures) (omega arith, omega (arith, e.place, b.1));
    }
