use mathlib.Core.Path.{refl}
use Rattle.tags.specs.Entry.{Keyed, form_of, key}
use Rattle.requests.specs.Request.{free}
use Rattle.requests.proofs.Requests.{sent-is}
use Rattle.requests.proofs.write_free.Goals as goal

pub returns : goal.returns
returns c =
    let w = form_of c.args.access in
    let v : Keyed = (c.args.tag, c.args.access) in
    rw (← sent-is (free v) w tt (key w) v refl refl c.args.version c.args.out.now) c.write_tag.ensures
