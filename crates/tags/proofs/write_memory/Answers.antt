use native.Mathlib.Omega.{arith}
use Rattle.octets.proofs.Sends.{sent-long, sent-laid}
use Rattle.tags.specs.Entry.{form_of, memory, Held}
use Rattle.tags.proofs.Entries.{length-memory, held_fits, held-size, sent-stopped}
use Rattle.tags.proofs.write_memory.Goals as goal

pub returns-then-n-gt2048 : goal.returns-then-n-gt2048
returns-then-n-gt2048 c =
    let k : Held = ((c.args.tag, c.args.access), c.args.src.now) in
    let l = length-memory (form_of c.args.access) k in
    sent-long (memory (form_of c.args.access)) c.args.version c.args.kind k c.args.out.now (omega arith)

pub returns-in_err-at : goal.returns-in_err-at
returns-in_err-at c =
    let k : Held = ((c.args.tag, c.args.access), c.args.src.now) in
    let m = held_fits c.args.tag c.args.access c.form_of.ensures c.args.src.now c.ranges.tag.fits (omega arith) in
    let e = held-size c.args.tag c.args.access c.form_of.ensures c.args.src.now c.lock_size.ensures c.length_size.ensures in
    sent-stopped (memory (form_of c.args.access)) c.args.version c.args.kind k c.args.out.now e m c.in_err-at.ensures c.from_residual.ensures.1

pub returns : goal.returns
returns c =
    let k : Held = ((c.args.tag, c.args.access), c.args.src.now) in
    let m = held_fits c.args.tag c.args.access c.form_of.ensures c.args.src.now c.ranges.tag.fits (omega arith) in
    let e = held-size c.args.tag c.args.access c.form_of.ensures c.args.src.now c.lock_size.ensures c.length_size.ensures in
    sent-laid (memory (form_of c.args.access)) c.args.version c.args.kind k c.args.out.now _ _ _ _ _ e m c.in_ok-at.ensures (rw m at c.put_memory.ensures)
