-- `answer`: what the responder wrote is the answer, and its line has room.
use mathlib.Core.Path.{refl}
use native.Mathlib.Omega.{arith}
use Prim.Native.Nat.{◌+◌}
use lib.ListN.{take, length-take}
use Rattle.records.proofs.Steps.{answers}
use Rattle.records.proofs.Text.{length-answer-line}
use Rattle.records.proofs.answer.Goals as goal

pub returns : goal.returns
returns c = λ u last s v.
    answers u _ last s _ _ _ _ _ _ _ _ _ _ c.respond-sent.result refl (c.respond-sent.ensures u v) c.unwrap_or-len.ensures
    refl (omega (arith, c.requires.room.0, length-answer-line (c.args.answered + 1) (take c.unwrap_or-len.result c.respond-sent.new.answer), length-take c.unwrap_or-len.result c.respond-sent.new.answer))
    c.write_answer-next.ensures
