-- The whole output of the gate log program for a whole input. Document 01, 'The gate log program'.
use Rattle.std.specs.Prelude.{ℕ, zero, suc, true, List, ◌++◌, length}
use Rattle.octets.specs.declared.Port.{Port}
use Rattle.store.specs.Model.{State, new_unit, first_kind}
use Rattle.responder.specs.Respond.{respond}
use Rattle.responder.specs.Entry.{spoken}
use Rattle.records.specs.Text.{answer_line, bad_record, records}
use Rattle.records.specs.Record.{Front, nothing, wrong, cut, whole, front_after}

-- the unit's answer to a record's request; an area of 2,048 octets is never too short, so that there always is one (proofs/Theorems, `always-answered`)
abbrev pub answer_to : State → Port → List ℕ → List ℕ
answer_to u p r = spoken (respond u p r 2048).result

-- and the unit afterwards
abbrev pub unit_after : State → Port → List ℕ → State
unit_after u p r = (respond u p r 2048).unit

-- n records are answered and the input is at its end: "In every case the last line is `records`, a space and the number answered."
abbrev pub end_lines : ℕ → List ℕ
end_lines n = records n

-- the next record is bad: it "prints `bad record`, a space and its number, and reading stops"
abbrev pub stop_lines : ℕ → List ℕ
stop_lines n = bad_record (suc n) ++ records n

-- what is printed for what stands at the front, and behind it what the octets behind a record give
abbrev pub printed : (State → ℕ → List ℕ → List ℕ) → State → ℕ → Front → List ℕ
printed onward u n nothing = end_lines n
printed onward u n wrong = stop_lines n
printed onward u n cut = stop_lines n
printed onward u n (whole p r s) = answer_line (suc n) (answer_to u p r) ++ onward (unit_after u p r) (suc n) s

-- with n records answered before and at most k more
unfoldable pub output_within : ℕ → State → ℕ → List ℕ → List ℕ
output_within zero u n s = end_lines n
output_within (suc k) u n s = printed (output_within k) u n (front_after n s)

-- there are no more records than octets
unfoldable pub output_from : State → ℕ → List ℕ → List ℕ
output_from u n s = output_within (length s) u n s

-- "The unit has version 1, both options and no tags at first."
abbrev pub first_unit : State
first_unit = new_unit first_kind 1 true true

-- the whole output for the octets on standard input
unfoldable pub output : List ℕ → List ℕ
output s = output_from first_unit 0 s
