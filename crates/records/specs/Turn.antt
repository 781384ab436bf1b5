-- One turn of the gate log program: what is done with the octets at hand, which begin where a record begins. `last` says that nothing comes behind them.
use Rattle.std.specs.Prelude.{ℕ, suc, ◌+◌, Bool, cond, List, length}
use Rattle.store.specs.Model.{State}
use Rattle.records.specs.Text.{answer_line}
use Rattle.records.specs.Record.{Front, nothing, wrong, cut, whole, front_after}
use Rattle.records.specs.Output.{answer_to, unit_after, end_lines, stop_lines}

-- what a turn comes to
pub data Turned : Type 0 where
  -- nothing can be said before more octets come
  more : Turned
  -- a record is answered: the unit afterwards, how many octets the record takes, and its line
  answered : State → ℕ → List ℕ → Turned
  -- reading stops, with the closing lines
  ended : List ℕ → Turned

-- by what stands at the front: nothing is waited for once it is certain. A record's mark, port and length are five octets
abbrev pub turned_by : State → ℕ → Bool → Front → Turned
turned_by u n last nothing = cond last (ended (end_lines n)) more
turned_by u n last wrong = ended (stop_lines n)
turned_by u n last cut = cond last (ended (stop_lines n)) more
turned_by u n last (whole p r s) = answered (unit_after u p r) (5 + length r) (answer_line (suc n) (answer_to u p r))

-- the unit, the number of records answered before, whether nothing comes behind the octets, and the octets
unfoldable pub turn : State → ℕ → Bool → List ℕ → Turned
turn u n last s = turned_by u n last (front_after n s)
