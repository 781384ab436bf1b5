use Prim.Native.Nat.{◌+◌}
use mathlib.Core.Path.{◌≡◌, refl}
use native.Mathlib.Omega.{arith}
use Rattle.octets.specs.declared.Form.TheVariants.{Plain}
use mathlib.Core.List.{List, []}
use Rattle.octets.specs.Layout.{list_of}
use Rattle.tags.specs.Entry.{Held, memory}
use Rattle.lists.specs.Handed.{held_of, memories_sent}
use Rattle.answers.specs.Answer.{answer_kind, bulk_read}
use Rattle.requests.specs.Command as o
use Rattle.answers.proofs.Answers.{sent-is}
use Rattle.answers.proofs.write_bulk_read.Goals as goal

pub returns : goal.returns
unfolding memories_sent
returns c =
    let v : List Held = held_of Plain c.args.tags.now [] c.args.starts.now c.args.lengths.now c.args.src.now in
    let w = c.args.form in
    let k : 133 + c.form_number-kind.result ≡ answer_kind o.bulk_read w = omega (arith, c.form_number-kind.ensures) in
    rw (← sent-is (bulk_read v) w tt (list_of (memory Plain)) v refl refl k c.args.version c.args.out.now)
    c.write_memories.ensures
