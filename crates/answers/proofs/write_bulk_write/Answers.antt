use Prim.Native.Nat.{◌+◌}
use mathlib.Core.Path.{◌≡◌, refl}
use native.Mathlib.Omega.{arith}
use Rattle.octets.specs.declared.Form.TheVariants.{Plain}
use mathlib.Core.List.{List, []}
use Rattle.octets.specs.Layout.{list_of}
use Rattle.tags.specs.Entry.{Keyed, key}
use Rattle.lists.specs.Handed.{keys_of, keys_sent, agrees}
use Rattle.answers.specs.Answer.{answer_kind, bulk_write}
use Rattle.requests.specs.Command as o
use Rattle.answers.proofs.Answers.{sent-is}
use Rattle.answers.proofs.write_bulk_write.Goals as goal

pub returns : goal.returns
unfolding keys_sent agrees
returns c =
    let v : List Keyed = keys_of Plain c.args.tags.now [] in
    let w = c.args.form in
    let k : 134 + c.form_number-kind.result ≡ answer_kind o.bulk_write w = omega (arith, c.form_number-kind.ensures) in
    rw (← sent-is (bulk_write v) w tt (list_of (key Plain)) v refl refl k c.args.version c.args.out.now)
    c.write_keys.ensures
