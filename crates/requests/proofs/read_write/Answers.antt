use Rattle.tags.specs.View.{keyed}
use Rattle.requests.specs.Request.{write}
use Rattle.requests.proofs.Readings.{behind, under-bad, decoded-bad}
use Rattle.requests.proofs.read_write.Goals as goal

pub returns-in_err-span : goal.returns-in_err-span
returns-in_err-span c =
    let e = c.in_ok-key.ensures in
    let d = under-bad (λ d. (keyed c.in_ok-key.field-0.value, d)) _ (behind c.in_ok-read_data.ensures c.in_err-span.ensures) in
    decoded-bad c.from_residual-in_err-span.ensures.1 (rw (← e.says) (under-bad write _ d))
