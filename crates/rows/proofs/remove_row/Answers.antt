use native.Mathlib.Omega.{arith}
use Rattle.rows.proofs.Rows.{removed-steps}
use Rattle.rows.proofs.remove_row.Goals as goal

pub returns : goal.returns
returns c =
    removed-steps c.args.table.now _ _ _ _ _ _ _ (omega arith) (omega arith) c.get_slot-slot.ensures c.move_words.ensures c.empty.ensures
    c.put_slot.ensures c.lower_places.ensures
