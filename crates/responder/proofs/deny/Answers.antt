use Rattle.responder.proofs.Sends.{denial-sends, supplement-is}
use Rattle.responder.proofs.deny.Goals as goal

pub returns : goal.returns
returns c = denial-sends _ _ c.args.denial _ _ _ c.requires.0 c.number.ensures
    (supplement-is _ _ _ _ c.from-n.ensures c.eq.ensures) c.requires.1 c.write_denial.ensures c.told.ensures
