use mathlib.Core.Path.{◌≡◌, refl, ap, ◌∙◌}
use Rattle.tags.specs.Entry.{form_of}
use Rattle.resources.specs.Resource.{Grant, allocation}
use Rattle.requests.specs.Command.{form_number}
use Rattle.requests.specs.Request.{allocate}
use Rattle.requests.proofs.Requests.{sent-is}
use Rattle.requests.proofs.write_allocate.Goals as goal

pub returns : goal.returns
returns c =
    let w = form_of c.args.access in
    let v : Grant = record { tag = c.args.tag; mode = c.args.mode; size = c.args.size; access = c.args.access; initial = c.args.initial.now } in
    let n : c.form_number-kind.result ≡ form_number w = c.form_number-kind.ensures.0 ∙ ap form_number c.form_of.ensures.0 in
    rw (← sent-is (allocate v) w tt (allocation w) v refl refl c.args.version c.args.out.now, ← n) c.write_allocation.ensures
