use Rattle.requests.proofs.Readings.{whole}
use Rattle.requests.proofs.read_tag.Goals as goal

pub returns : goal.returns
returns c = rw c.to_end.ensures (whole c.in_ok-read_key.ensures)
