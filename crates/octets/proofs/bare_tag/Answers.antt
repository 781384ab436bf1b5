use Rattle.octets.proofs.Numbers.{bare-mask}
use Rattle.octets.proofs.bare_tag.Goals as goal

pub returns : goal.returns
returns c = bare-mask c.args.tag c.ranges.tag.fits
