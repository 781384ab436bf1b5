use Rattle.requests.specs.Request.{resource_information}
use Rattle.requests.proofs.Readings.{behind, under-bad, decoded-bad}
use Rattle.requests.proofs.read_resources.Goals as goal

pub returns-in_err-list : goal.returns-in_err-list
returns-in_err-list c =
    decoded-bad c.from_residual-in_err-list.ensures.1
    (under-bad resource_information _ (behind c.in_ok-read_keys.ensures c.in_err-list.ensures))
