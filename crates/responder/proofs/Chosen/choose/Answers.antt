use native.Mathlib.Omega.{arith}
use mathlib.Core.Path.{refl}
use Rattle.responder.proofs.Chooses.{chooses-over, chooses-one}
use Rattle.responder.proofs.Chosen.choose.Goals as goal

pub returns-then-len-gt2041 : goal.returns-then-len-gt2041
returns-then-len-gt2041 c = rw c.in-Ok.is (chooses-over _ _ c.requires.1 _ (omega arith) c.requires.0 (omega arith))

pub returns-then-size-gt2041 : goal.returns-then-size-gt2041
returns-then-size-gt2041 c = rw c.in-Ok.is (chooses-over _ _ c.requires.1 _ (omega arith) c.requires.0 (omega arith))

pub returns : goal.returns
returns c = rw c.in-Ok.is (chooses-one _ _ c.requires.1 _ (omega arith) c.requires.0 _ _ _ c.bare_tag.ensures
    c.length_size.ensures.0 (omega arith) (omega arith) refl c.if-size-gt2041.false)
