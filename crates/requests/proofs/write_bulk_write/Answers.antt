use mathlib.Core.Path.{refl}
use Rattle.octets.specs.Layout.{list_of}
use Rattle.tags.specs.Entry.{memory}
use Rattle.lists.specs.Handed.{held_of, memories_sent}
use Rattle.requests.specs.Request.{bulk_write}
use Rattle.requests.proofs.Requests.{sent-is}
use Rattle.requests.proofs.write_bulk_write.Goals as goal

pub returns : goal.returns
unfolding memories_sent
returns c =
    let w = c.args.form in
    let v = held_of w c.args.tags.now c.args.passwords.now c.args.starts.now c.args.lengths.now c.args.src.now in
    rw (← sent-is (bulk_write v) w tt (list_of (memory w)) v refl refl c.args.version c.args.out.now, ← c.form_number-kind.ensures.0)
    c.write_memories.ensures
