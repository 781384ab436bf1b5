use native.Mathlib.Omega.{arith}
use Rattle.requests.proofs.Readings.{handed, request-long, request-headless, request-unenclosed, request-bad, request-good}
use Rattle.requests.proofs.read_request.Goals as goal

pub returns-then-s-gt2048 : goal.returns-then-s-gt2048
returns-then-s-gt2048 c = request-long (omega arith)

pub returns-in_err-version : goal.returns-in_err-version
returns-in_err-version c =
    rw (handed c.from_residual.ensures.1) (request-headless c.if-s-gt2048.false c.in_err-version.ensures)

pub returns-in_err-at : goal.returns-in_err-at
returns-in_err-at c =
    rw (handed c.from_residual-in_err-at.ensures.1)
    (request-unenclosed c.if-s-gt2048.false c.in_ok-version.ensures c.in_err-at.ensures)

pub returns-in_err-operation : goal.returns-in_err-operation
returns-in_err-operation c =
    rw (handed c.from_residual-in_err-operation.ensures.1)
    (request-bad c.if-s-gt2048.false c.in_ok-version.ensures c.in_ok-at.ensures c.in_err-operation.ensures)

pub returns : goal.returns
returns c = request-good c.if-s-gt2048.false c.in_ok-version.ensures c.in_ok-at.ensures c.in_ok-operation.ensures
