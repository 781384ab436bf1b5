use Prim.Native.Nat.{◌+◌}
use mathlib.Core.Path.{◌≡◌, refl}
use native.Mathlib.Omega.{arith}
use Rattle.octets.specs.declared.Form.TheVariants.{Plain}
use Rattle.octets.specs.declared.Access.TheVariants as a
use Rattle.tags.specs.Entry.{Held, memory}
use Rattle.answers.specs.Answer.{answer_kind, read}
use Rattle.requests.specs.Command as o
use Rattle.answers.proofs.Answers.{sent-is}
use Rattle.answers.proofs.write_read.Goals as goal

pub returns : goal.returns
returns c =
    let v : Held = ((c.args.tag, a.Plain), c.args.src.now) in
    let w = c.args.form in
    let k : 131 + c.form_number-kind.result ≡ answer_kind o.read w = omega (arith, c.form_number-kind.ensures) in
    rw (← sent-is (read v) w tt (memory Plain) v refl refl k c.args.version c.args.out.now)
    c.write_memory.ensures
