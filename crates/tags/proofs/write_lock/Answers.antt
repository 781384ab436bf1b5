use Rattle.octets.proofs.Areas.{laid_none}
use Rattle.tags.proofs.write_lock.Goals as goal

pub returns-in-Plain : goal.returns-in-Plain
returns-in-Plain c = rw c.in-Plain.is (laid_none c.args.out.now c.args.at)
