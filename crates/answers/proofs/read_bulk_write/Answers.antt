use Rattle.requests.proofs.Readings.{behind, under-bad}
use Rattle.answers.specs.Answer.{bulk_write}
use Rattle.answers.proofs.Readings.{decoded-bad}
use Rattle.answers.proofs.read_bulk_write.Goals as goal

pub returns-in_err-list : goal.returns-in_err-list
returns-in_err-list c =
    decoded-bad c.from_residual-in_err-list.ensures.1
    (under-bad bulk_write _ (behind c.in_ok-read_keys.ensures c.in_err-list.ensures))
