use Rattle.responder.proofs.Tells.{capped-is}
use Rattle.responder.proofs.room_of.Goals as goal

pub returns : goal.returns
returns c = λ u e.
    rw (
      capped-is 65535 _ _ _ c.try_from.ensures c.unwrap_or-tags.ensures,
      capped-is 4294967295 _ _ _ c.try_from-2.ensures c.unwrap_or-octets.ensures,
      capped-is 4294967295 _ _ _ c.try_from-3.ensures c.unwrap_or.ensures,
      capped-is 65535 _ _ _ c.try_from-4.ensures c.unwrap_or-2.ensures,
      c.remainder-left.ensures,
      e,
    )
