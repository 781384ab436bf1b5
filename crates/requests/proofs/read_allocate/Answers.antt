use Rattle.requests.specs.Request.{allocate}
use Rattle.requests.proofs.Readings.{behind, under-bad, decoded-bad}
use Rattle.requests.proofs.read_allocate.Goals as goal

pub returns-in_err-allocation : goal.returns-in_err-allocation
returns-in_err-allocation c =
    decoded-bad c.from_residual-in_err-allocation.ensures.1
    (under-bad allocate _ (behind c.in_ok-read_allocation.ensures c.in_err-allocation.ensures))
