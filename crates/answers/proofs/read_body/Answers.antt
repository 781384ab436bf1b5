use mathlib.Core.Path.{refl}
use native.Mathlib.Omega.{arith}
use Rattle.requests.specs.Command.{allocate, free, write}
use Rattle.answers.specs.Answer as b
use Rattle.answers.proofs.Readings.{tag-bad, tag-good, decoded-at, decoded-either, decoded-unknown}
use Rattle.answers.proofs.read_body.Goals as goal

pub returns-in-128 : goal.returns-in-128
returns-in-128 c = decoded-at c.read_resources.ensures c.in-128.is tt

pub returns-in_err-read_tag-in-129 : goal.returns-in_err-read_tag-in-129
returns-in_err-read_tag-in-129 c =
    decoded-either
    (tag-bad allocate b.allocate (λ l. refl) c.from_residual.ensures.1 c.in_err-read_tag-in-129.ensures)
    c.form_at-form.ensures c.in-129.is tt tt

pub returns-in_ok-read_tag-in-129 : goal.returns-in_ok-read_tag-in-129
returns-in_ok-read_tag-in-129 c =
    decoded-either
    (tag-good allocate b.allocate (λ l. refl) c.in_ok-read_tag-in-129.ensures refl refl tt)
    c.form_at-form.ensures c.in-129.is tt tt

pub returns-in_err-read_tag-in-130 : goal.returns-in_err-read_tag-in-130
returns-in_err-read_tag-in-130 c =
    decoded-either
    (tag-bad free b.free (λ l. refl) c.from_residual-in_err-read_tag-in-130.ensures.1 c.in_err-read_tag-in-130.ensures)
    c.form_at-form.ensures c.in-130.is tt tt

pub returns-in_ok-read_tag-in-130 : goal.returns-in_ok-read_tag-in-130
returns-in_ok-read_tag-in-130 c =
    decoded-either
    (tag-good free b.free (λ l. refl) c.in_ok-read_tag-in-130.ensures refl refl tt)
    c.form_at-form.ensures c.in-130.is tt tt

pub returns-in_err-read_tag-in-132 : goal.returns-in_err-read_tag-in-132
returns-in_err-read_tag-in-132 c =
    decoded-either
    (tag-bad write b.write (λ l. refl) c.from_residual-in_err-read_tag-in-132.ensures.1 c.in_err-read_tag-in-132.ensures)
    c.form_at-form.ensures c.in-132.is tt tt

pub returns-in_ok-read_tag-in-132 : goal.returns-in_ok-read_tag-in-132
returns-in_ok-read_tag-in-132 c =
    decoded-either
    (tag-good write b.write (λ l. refl) c.in_ok-read_tag-in-132.ensures refl refl tt)
    c.form_at-form.ensures c.in-132.is tt tt

pub returns-in-131 : goal.returns-in-131
returns-in-131 c = decoded-either c.read_read.ensures c.form_at-form.ensures c.in-131.is tt tt

pub returns-in-133 : goal.returns-in-133
returns-in-133 c = decoded-either c.read_bulk_read.ensures c.form_at-form.ensures c.in-133.is tt tt

pub returns-in-134 : goal.returns-in-134
returns-in-134 c = decoded-either c.read_bulk_write.ensures c.form_at-form.ensures c.in-134.is tt tt

-- it is none of the thirteen types of the table
pub returns-in-0-to-127 : goal.returns-in-0-to-127
returns-in-0-to-127 c = decoded-unknown (λ h. grind arith) (λ h. grind arith)
