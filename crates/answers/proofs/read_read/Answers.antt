use Rattle.requests.proofs.Readings.{behind, under-bad}
use Rattle.answers.specs.Answer.{read}
use Rattle.answers.proofs.Readings.{decoded-bad}
use Rattle.answers.proofs.read_read.Goals as goal

pub returns-in_err-memory : goal.returns-in_err-memory
returns-in_err-memory c =
    decoded-bad c.from_residual-in_err-memory.ensures.1
    (under-bad read _ (behind c.in_ok-read_memory.ensures c.in_err-memory.ensures))
