use Rattle.requests.specs.Request.{bulk_read}
use Rattle.requests.proofs.Readings.{behind, under-bad, decoded-bad}
use Rattle.requests.proofs.read_bulk_read.Goals as goal

pub returns-in_err-list : goal.returns-in_err-list
returns-in_err-list c =
    decoded-bad c.from_residual-in_err-list.ensures.1
    (under-bad bulk_read _ (behind c.in_ok-read_keys.ensures c.in_err-list.ensures))
