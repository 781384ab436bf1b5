-- `take_turn`: what `look` says stands at the front decides.
use native.Mathlib.Omega.{arith}
use mathlib.Core.Path.{refl}
use Prim.Native.Nat.{◌+◌}
use lib.ListN.{length, drop}
use Rattle.records.specs.Record.{nothing, wrong, cut, whole}
use Rattle.records.specs.Output.{end_lines, stop_lines}
use Rattle.records.proofs.Steps.{length-end, length-stop, turns, turns-ended, turns-more}
use Rattle.records.proofs.take_turn.Goals as goal

pub returns-in-Nothing : goal.returns-in-Nothing
returns-in-Nothing c = λ u v.
    turns-ended u _ _ _ _ _ nothing (end_lines c.args.answered) c.in-Nothing.ensures.0 (grind arith) (omega (arith, length-end c.args.answered, c.requires.room)) c.write_end.ensures v

pub returns-in-Cut : goal.returns-in-Cut
returns-in-Cut c = λ u v.
    turns-ended u _ _ _ _ _ cut (stop_lines c.args.answered) c.in-Cut.ensures.0 (grind arith) (omega (arith, length-stop c.args.answered, c.requires.room)) c.write_stop.ensures v

pub returns-in-Wrong : goal.returns-in-Wrong
returns-in-Wrong c = λ u v.
    turns-ended u _ _ _ _ _ wrong (stop_lines c.args.answered) c.in-Wrong.ensures.0 refl (omega (arith, length-stop c.args.answered, c.requires.room)) c.write_stop-in-Wrong.ensures v

pub returns-in-Nothing-2 : goal.returns-in-Nothing-2
returns-in-Nothing-2 c = λ u v. turns-more u _ _ _ _ _ nothing c.in-Nothing-2.ensures.0 (grind arith) v

pub returns-in-Cut-2 : goal.returns-in-Cut-2
returns-in-Cut-2 c = λ u v. turns-more u _ _ _ _ _ cut c.in-Cut-2.ensures.0 (grind arith) v

pub returns-in-Whole : goal.returns-in-Whole
returns-in-Whole c = λ u v.
    turns u _ _ _ _ _ (whole c.in-Whole.port c.in-Whole.request.now (drop (5 + length c.in-Whole.request.now) c.args.octets.now)) c.in-Whole.ensures.0
    (c.answer.ensures u c.args.last (drop (5 + length c.in-Whole.request.now) c.args.octets.now) v)
