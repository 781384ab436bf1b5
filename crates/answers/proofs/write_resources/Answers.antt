use mathlib.Core.Path.{refl}
use Rattle.octets.specs.declared.Form.TheVariants.{Plain}
use mathlib.Core.List.{List}
use Rattle.resources.specs.declared.Room.{Room}
use Rattle.resources.specs.declared.Resource.{Resource}
use Rattle.resources.specs.Resource.{resources, resources_of, resources_sent}
use Rattle.answers.specs.Answer.{resource_information}
use Rattle.answers.proofs.Answers.{sent-is}
use Rattle.answers.proofs.write_resources.Goals as goal

pub returns : goal.returns
unfolding resources_sent
returns c =
    let v : Room × List Resource =
    (c.args.room, resources_of c.args.tags.now c.args.modes.now c.args.held.now c.args.sizes.now) in
    rw (← sent-is (resource_information v) Plain tt resources v refl refl refl c.args.version c.args.out.now)
    c.write_resources.ensures
