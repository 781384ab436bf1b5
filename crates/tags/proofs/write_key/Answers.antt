use Rattle.octets.proofs.Sends.{sent-laid}
use Rattle.tags.specs.Entry.{form_of, key}
use Rattle.tags.proofs.Entries.{keyed-fits, keyed-size, sent-stopped}
use Rattle.tags.proofs.write_key.Goals as goal

pub returns-in_err-at : goal.returns-in_err-at
returns-in_err-at c =
    let e = keyed-size c.args.tag c.args.access c.form_of.ensures c.lock_size-body.ensures in
    let g = keyed-fits c.args.tag c.args.access c.form_of.ensures c.ranges.tag.fits in
    sent-stopped (key (form_of c.args.access)) c.args.version c.args.kind (c.args.tag, c.args.access) c.args.out.now e g c.in_err-at.ensures c.from_residual.ensures.1

pub returns : goal.returns
returns c =
    let e = keyed-size c.args.tag c.args.access c.form_of.ensures c.lock_size-body.ensures in
    let g = keyed-fits c.args.tag c.args.access c.form_of.ensures c.ranges.tag.fits in
    sent-laid (key (form_of c.args.access)) c.args.version c.args.kind (c.args.tag, c.args.access) c.args.out.now _ _ _ _ _ e g c.in_ok-at.ensures c.put_key.ensures
