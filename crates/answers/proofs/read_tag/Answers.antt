use Rattle.requests.proofs.Readings.{handed, behind}
use Rattle.answers.proofs.read_tag.Goals as goal

pub returns-in_err-to_end : goal.returns-in_err-to_end
returns-in_err-to_end c =
    rw (handed c.from_residual-in_err-to_end.ensures.1) (behind c.in_ok-read_key.ensures c.in_err-to_end.ensures)
