use mathlib.Core.Path.{refl}
use mathlib.Core.List.{[]}
use Rattle.octets.specs.Layout.{list_of}
use Rattle.octets.specs.declared.Form.TheVariants.{Plain}
use Rattle.tags.specs.Entry.{key}
use Rattle.lists.specs.Handed.{keys_of, keys_sent, agrees}
use Rattle.requests.specs.Request.{resource_information}
use Rattle.requests.proofs.Requests.{sent-is}
use Rattle.requests.proofs.write_resources.Goals as goal

pub returns : goal.returns
unfolding keys_sent agrees
returns c =
    let v = keys_of Plain c.args.tags.now [] in
    rw (← sent-is (resource_information v) Plain tt (list_of (key Plain)) v refl refl c.args.version c.args.out.now)
    c.write_keys.ensures
