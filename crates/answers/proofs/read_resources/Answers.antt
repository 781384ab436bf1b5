use Rattle.requests.proofs.Readings.{behind, under-bad}
use Rattle.answers.specs.Answer.{resource_information}
use Rattle.answers.proofs.Readings.{decoded-bad}
use Rattle.answers.proofs.read_resources.Goals as goal

pub returns-in_err-told : goal.returns-in_err-told
returns-in_err-told c =
    decoded-bad c.from_residual-in_err-told.ensures.1
    (under-bad resource_information _ (behind c.in_ok-read_resources.ensures c.in_err-told.ensures))
