use mathlib.Core.Path.{sym}
use native.Mathlib.Omega.{arith}
use Rattle.requests.proofs.Readings.{handed}
use Rattle.answers.proofs.Readings.{answer-long, answer-denied, answer-headless, answer-unenclosed, answer-bad, answer-good}
use Rattle.answers.proofs.read_answer.Goals as goal

pub returns-then-s-gt2048 : goal.returns-then-s-gt2048
returns-then-s-gt2048 c = answer-long (omega arith)

pub returns-then-is_denial : goal.returns-then-is_denial
returns-then-is_denial c = answer-denied c.if-s-gt2048.false (sym c.if-is_denial.ensures) c.read_denial.ensures

pub returns-in_err-version : goal.returns-in_err-version
returns-in_err-version c =
    rw (handed c.from_residual.ensures.1)
    (answer-headless c.if-s-gt2048.false (sym c.if-is_denial.ensures) c.in_err-version.ensures)

pub returns-in_err-at : goal.returns-in_err-at
returns-in_err-at c =
    rw (handed c.from_residual-in_err-at.ensures.1)
    (answer-unenclosed c.if-s-gt2048.false (sym c.if-is_denial.ensures) c.in_ok-version.ensures c.in_err-at.ensures)

pub returns-in_err-given : goal.returns-in_err-given
returns-in_err-given c =
    rw (handed c.from_residual-in_err-given.ensures.1)
    (answer-bad c.if-s-gt2048.false
    (sym c.if-is_denial.ensures) c.in_ok-version.ensures c.in_ok-at.ensures c.in_err-given.ensures)

pub returns : goal.returns
returns c =
    answer-good c.if-s-gt2048.false
    (sym c.if-is_denial.ensures) c.in_ok-version.ensures c.in_ok-at.ensures c.in_ok-given.ensures
