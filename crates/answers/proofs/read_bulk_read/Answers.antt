use Rattle.requests.proofs.Readings.{behind, under-bad}
use Rattle.answers.specs.Answer.{bulk_read}
use Rattle.answers.proofs.Readings.{decoded-bad}
use Rattle.answers.proofs.read_bulk_read.Goals as goal

pub returns-in_err-list : goal.returns-in_err-list
returns-in_err-list c =
    decoded-bad c.from_residual-in_err-list.ensures.1
    (under-bad bulk_read _ (behind c.in_ok-read_memories.ensures c.in_err-list.ensures))
