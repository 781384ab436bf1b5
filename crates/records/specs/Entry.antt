-- What the entry's promise says of its result, of the area for lines and of the unit; and what the answers of the functions below it stand for.
use Rattle.std.specs.Prelude.{ℕ, ◌+◌, ◌≤◌, ◌≡◌, Bool, cond, List, ◌++◌, length, drop, take, ltb, Option, Some, None}
use Rattle.store.specs.Model.{State, Shows}
use Rattle.records.specs.Record.{Front, nothing, wrong, cut, whole}
use Rattle.records.specs.Turn.{Turned, more, answered, ended, turn}
use Rattle.records.specs.declared.Front.{Front as Seen}
use Rattle.records.specs.declared.Front.TheVariants as l
use Rattle.records.specs.declared.Turn.{Turn}
use Rattle.records.specs.declared.Turn.TheVariants as t
use Rattle.admission.specs.declared.Head.{Head}
use Rattle.records.specs.declared.Outcome.{Outcome}

-- what the caller is told: how many octets of the input were used and how many written; or document 01's number
pub data Word : Type 0 where
  wants-more : Word
  used-written : ℕ → ℕ → Word
  closed : ℕ → Word
  refusal : ℕ → Word

-- what a turn's outcome says
abbrev pub said : Turn → Word
said t.More = wants-more
said (t.Answered used written) = used-written used written
said (t.Ended written) = closed written

-- what an answer of step says; where there is no outcome, for want of room, the number is 300
abbrev pub word_of : Option Outcome → Word
word_of (Some r) = said r.turn
word_of None = refusal 300

-- the unit's head afterwards; without an outcome it is the one that the caller has
abbrev pub head_after : Head → Option Outcome → Head
head_after h (Some r) = r.head
head_after h None = h

-- octets written into an area from a place on: before them and behind them it keeps its old content
abbrev pub over : List ℕ → ℕ → List ℕ → List ℕ
over old at v = take at old ++ v ++ drop (at + length v) old

-- what the caller is told, the area afterwards and the unit afterwards
pub record Out : Type 0 where
  pub word : Word
  pub area : List ℕ
  pub unit : State

-- the same of a turn, whose lines go into the area from a place on
abbrev pub out_of : State → List ℕ → ℕ → Turned → Out
out_of u old at more = record { word = wants-more; area = old; unit = u }
out_of u old at (answered v used line) = record { word = used-written used (length line); area = over old at line; unit = v }
out_of u old at (ended lines) = record { word = closed (length lines); area = over old at lines; unit = u }

-- 300 for an area that has no room for the longest line, 4,108 octets: ten digits, a space, 2,048 octets in hexadecimal, the line's end
unfoldable pub step_out : State → ℕ → Bool → List ℕ → List ℕ → ℕ → Out
step_out u n last s old at = cond (ltb (length old) (at + 4108)) (record { word = refusal 300; area = old; unit = u }) (out_of u old at (turn u n last s))

-- the entry's promise
pub record Stepped (o : Out) (h : Head) (r : Option Outcome) (new table pool : List ℕ) : Type 0 where
  pub says : word_of r ≡ o.word
  pub area : new ≡ o.area
  pub left : Shows o.unit (head_after h r) table pool

-- ---- the functions below the entry

-- what an answer of look says of the octets s, and where the request lies
abbrev pub look_in : List ℕ → Seen → Front
look_in s l.Nothing = nothing
look_in s l.Wrong = wrong
look_in s l.Cut = cut
look_in s (l.Whole port request) = whole port request.now (drop (5 + length request.now) s)

-- a record's request is "of at most 2,048 octets", and stands within the octets behind the first five
abbrev pub LookPlace : List ℕ → Seen → Type 0
LookPlace s l.Nothing = Unit {0}
LookPlace s l.Wrong = Unit {0}
LookPlace s l.Cut = Unit {0}
LookPlace s (l.Whole port request) = (5 + length request.now ≤ length s) × (length request.now ≤ 2048)
