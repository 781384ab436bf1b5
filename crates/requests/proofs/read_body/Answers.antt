use mathlib.Core.Path.{refl}
use Rattle.requests.specs.Command.{free, read}
use Rattle.requests.specs.Request as b
use Rattle.requests.proofs.Readings.{tag-bad, tag-good, decoded-at, decoded-either, decoded-unknown}
use Rattle.requests.proofs.read_body.Goals as goal
use native.Mathlib.Omega.{arith}

pub returns-in-0 : goal.returns-in-0
returns-in-0 c = decoded-at c.read_resources.ensures c.in-0.is tt

pub returns-in-1 : goal.returns-in-1
returns-in-1 c = decoded-either c.read_allocate.ensures c.form_at-form.ensures c.in-1.is tt tt

pub returns-in_err-key-in-2 : goal.returns-in_err-key-in-2
returns-in_err-key-in-2 c =
    decoded-either
    (tag-bad free b.free (λ l. refl) c.from_residual.ensures.1 c.in_err-key-in-2.ensures)
    c.form_at-form.ensures c.in-2.is tt tt

pub returns-in_ok-key-in-2 : goal.returns-in_ok-key-in-2
returns-in_ok-key-in-2 c =
    decoded-either
    (tag-good free b.free (λ l. refl) c.in_ok-key-in-2.ensures refl refl tt)
    c.form_at-form.ensures c.in-2.is tt tt

pub returns-in_err-key-in-3 : goal.returns-in_err-key-in-3
returns-in_err-key-in-3 c =
    decoded-either
    (tag-bad read b.read (λ l. refl) c.from_residual-in_err-key-in-3.ensures.1 c.in_err-key-in-3.ensures)
    c.form_at-form.ensures c.in-3.is tt tt

pub returns-in_ok-key-in-3 : goal.returns-in_ok-key-in-3
returns-in_ok-key-in-3 c =
    decoded-either
    (tag-good read b.read (λ l. refl) c.in_ok-key-in-3.ensures refl refl tt)
    c.form_at-form.ensures c.in-3.is tt tt

pub returns-in-4 : goal.returns-in-4
returns-in-4 c = decoded-either c.read_write.ensures c.form_at-form.ensures c.in-4.is tt tt

pub returns-in-5 : goal.returns-in-5
returns-in-5 c = decoded-at c.read_bulk_read.ensures c.in-5.is tt

pub returns-in-6 : goal.returns-in-6
returns-in-6 c = decoded-at c.read_bulk_write.ensures c.in-6.is tt

pub returns-in-69 : goal.returns-in-69
returns-in-69 c = decoded-at c.read_bulk_read-in-69.ensures c.in-69.is tt

pub returns-in-70 : goal.returns-in-70
returns-in-70 c = decoded-at c.read_bulk_write-in-70.ensures c.in-70.is tt

-- it is none of the thirteen types of the table
pub returns-in-7-to-64 : goal.returns-in-7-to-64
returns-in-7-to-64 c = decoded-unknown (grind arith) (λ h. grind arith)
