use mathlib.Core.Path.{refl}
use Rattle.octets.specs.Layout.{list_of}
use Rattle.tags.specs.Entry.{key}
use Rattle.lists.specs.Handed.{keys_of, keys_sent}
use Rattle.requests.specs.Request.{bulk_read}
use Rattle.requests.proofs.Requests.{sent-is}
use Rattle.requests.proofs.write_bulk_read.Goals as goal

pub returns : goal.returns
unfolding keys_sent
returns c =
    let w = c.args.form in
    let v = keys_of w c.args.tags.now c.args.passwords.now in
    rw (← sent-is (bulk_read v) w tt (list_of (key w)) v refl refl c.args.version c.args.out.now, ← c.form_number-kind.ensures.0)
    c.write_keys.ensures
