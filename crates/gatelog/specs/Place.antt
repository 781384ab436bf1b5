-- Where the program's places are at first and where they lie, what writing and reading do to them, what a turn does, and how many turns are enough.
use Rattle.std.specs.Prelude.{ℕ, ◌+◌, ◌-◌, ◌*◌, ◌≤◌, ◌≡◌, Bool, true, false, cond, List, length, take, drop, eqb}
use Rattle.admission.specs.declared.Head.{Head}
use Rattle.store.specs.Model.{Shows}
use Rattle.records.specs.Entry.{Word, wants-more, used-written, closed, refusal, Out}
use Rattle.gatelog.specs.declared.Place.{Place}

-- at first nothing is read, answered or written, and the program is to go on
abbrev pub first_place : Head → Place
first_place head = record { head = head; answered = 0; start = 0; end = 0; filled = 0; handed = 0; last = false; going = true }

-- the octets at hand lie within the input buffer, the characters not yet written within the output buffer
pub record Within (p : Place) (input out : List ℕ) : Type 0 where
  pub order : p.start ≤ p.end
  pub inside : p.end ≤ length input
  pub room : p.filled ≤ length out

-- the input buffer holds the longest record, 2,053 octets, and the output buffer the longest line, 4,108 characters: once what waits is written out, there is room for it
abbrev pub Roomy : List ℕ → List ℕ → Type 0
Roomy input out = (2053 ≤ length input) × (4108 ≤ length out)

-- the octets at hand
abbrev pub at_hand : Place → List ℕ → List ℕ
at_hand p input = take (p.end - p.start) (drop p.start input)

-- n characters, from the front of the output buffer, were handed over to be written, and none is left
pub record Emptied (n : ℕ) (p r : Place) : Type 0 where
  pub answered : r.answered ≡ p.answered
  pub start : r.start ≡ p.start
  pub end : r.end ≡ p.end
  pub filled : r.filled ≡ 0
  pub handed : r.handed ≡ n
  pub last : r.last ≡ p.last

-- the program goes on as before if the characters could be written, and else no more; nothing says which
abbrev pub Tried : Place → Place → Type 0
Tried p r = (written : Bool) × (r.going ≡ cond written p.going false)

-- octets are read behind those at hand, which go to the front of the input buffer; the input is at its end if there are none
pub record Refilled (p r : Place) (old new : List ℕ) : Type 0 where
  pub answered : r.answered ≡ p.answered
  pub start : r.start ≡ 0
  pub held : take (p.end - p.start) new ≡ at_hand p old
  pub end : (p.end - p.start ≤ r.end) × (r.end ≤ length new)
  pub filled : r.filled ≡ p.filled
  pub handed : r.handed ≡ p.handed
  pub last : r.last ≡ eqb r.end (p.end - p.start)
  pub going : r.going ≡ p.going

-- ---- a turn

-- a record is answered: so many octets are used, and a line of so many characters waits to be written
pub record Answered (used written : ℕ) (p r : Place) : Type 0 where
  pub answered : r.answered ≡ p.answered + 1
  pub start : r.start ≡ p.start + used
  pub end : r.end ≡ p.end
  pub filled : r.filled ≡ p.filled + written
  pub handed : r.handed ≡ p.handed
  pub last : r.last ≡ p.last
  pub going : r.going ≡ p.going

-- more octets are wanted: every line that waits is handed over first, and then the program reads, if it is to go on
pub record Awaited (p r : Place) (old new : List ℕ) : Type 0 where
  pub between : Place
  pub emptied : Emptied p.filled p between
  pub tried : Tried p between
  pub refilled : between.going ≡ true → Refilled between r old new
  pub left : between.going ≡ false → (r ≡ between) × (new ≡ old)

-- what becomes of the places and of the input buffer, by what is said of the octets at hand: a record is answered; the log is closed, and with its closing lines every
-- line is handed over; there is no room for a line, and every line that waits is handed over; more octets are wanted
abbrev pub Moved : Word → Place → Place → List ℕ → List ℕ → Type 0
Moved (used-written used written) p r old new = Answered used written p r × (new ≡ old)
Moved (closed written) p r old new = Emptied (p.filled + written) p r × (r.going ≡ false) × (new ≡ old)
Moved (refusal number) p r old new = Emptied p.filled p r × Tried p r × (new ≡ old)
Moved wants-more p r old new = Awaited p r old new

-- a turn does what is said of the octets at hand: with the places and the input buffer, with the output buffer and with the unit
pub record TurnTaken (o : Out) (p r : Place) (old new out table pool : List ℕ) : Type 0 where
  pub places : Moved o.word p r old new
  pub lines : out ≡ o.area
  pub unit : Shows o.unit r.head table pool

-- ---- the turns of a run

-- No run takes more turns than these. A turn that reads gets an octet or finds the end, so that a record takes at most 2,054 turns: 2,053 that read, and one that answers
-- it. Before each of them at most one writes out what waits. There are at most 4,294,967,295 records, and what is behind them ends the log in no more turns than a record.
abbrev pub enough_turns : ℕ
enough_turns = 4294967296 * (2 * 2054)
