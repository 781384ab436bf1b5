use Prim.Native.Nat.{◌+◌}
use mathlib.Core.Path.{◌≡◌, refl}
use native.Mathlib.Omega.{arith}
use Rattle.octets.specs.declared.Form.TheVariants.{Plain}
use Rattle.octets.specs.declared.Access.TheVariants as a
use Rattle.tags.specs.Entry.{Keyed, key}
use Rattle.answers.specs.Answer.{answer_kind, allocate}
use Rattle.requests.specs.Command as o
use Rattle.answers.proofs.Answers.{sent-is}
use Rattle.answers.proofs.write_allocate.Goals as goal

pub returns : goal.returns
returns c =
    let v : Keyed = (c.args.tag, a.Plain) in
    let w = c.args.form in
    let k : 129 + c.form_number-kind.result ≡ answer_kind o.allocate w = omega (arith, c.form_number-kind.ensures) in
    rw (← sent-is (allocate v) w tt (key Plain) v refl refl k c.args.version c.args.out.now)
    c.write_key.ensures
