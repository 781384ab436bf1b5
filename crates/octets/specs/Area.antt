-- The two rules for an area that a caller lends: a field is written whole or not at all, and a message is refused before its first octet is stored.
-- Document 01, 'Denials and their order': 16 for a message that may not be written, then 300 for an area too short; nothing is written in either case, and
-- octets past a written message keep their old content.
use Rattle.std.specs.Prelude.{ℕ, ◌+◌, ◌≡◌, Bool, true, false, cond, List, ◌++◌, length, drop, ltb, leb, Result, Ok, Err}
use Rattle.std.proofs.lemmas.List.Edits.{sets}
use Rattle.octets.specs.declared.Unwritten.{Unwritten}
use Rattle.octets.specs.declared.Unwritten.TheVariants.{Refused, NoRoom}

-- the octets v laid at a place of an area, if the area has room for all of them
unfoldable pub laid : List ℕ → ℕ → List ℕ → List ℕ
laid old at v = cond (leb (at + length v) (length old)) (sets old at v) old

-- where the next field starts; where there was no room, the same place
unfoldable pub past : List ℕ → ℕ → List ℕ → ℕ
past old at v = cond (leb (at + length v) (length old)) (at + length v) at

-- what a writer of a field leaves: the area, and where the next field starts
pub record Laid (old : List ℕ) (at : ℕ) (v new : List ℕ) (next : ℕ) : Type 0 where
  pub holds : new ≡ laid old at v
  pub ends : next ≡ past old at v

-- the octets v, for which there is room, written from a place of old give x, and the next place is p
pub record Wrote (old : List ℕ) (at : ℕ) (v x : List ℕ) (p : ℕ) : Type 0 where
  pub holds : x ≡ sets old at v
  pub next : p ≡ at + length v

-- what a writer of messages answers: how many octets stand in the area, or why none do
abbrev pub Written : Type 0
Written = Result ℕ Unwritten

-- what that says: the message's length, or document 01's number
pub data Outcome : Type 0 where
  done : ℕ → Outcome
  refused : ℕ → Outcome

-- the numbers: "gives 16 for writing exactly if" no such message may be written; "An area too short for the message gives 300"
abbrev pub outcome : Written → Outcome
outcome (Ok n) = done n
outcome (Err Refused) = refused 16
outcome (Err NoRoom) = refused 300

-- the answer and the area afterwards: 16 for a message that may not be written, then 300, "also writing nothing, and that test comes second";
-- what lies past the message stays
unfoldable pub written : Bool → List ℕ → List ℕ → Outcome × List ℕ
written true m old = cond (ltb (length old) (length m)) (refused 300, old) (done (length m), m ++ drop (length m) old)
written false m old = (refused 16, old)

-- the same for lists that a caller hands over: where they describe no message at all, 16
abbrev pub described : Bool → Outcome × List ℕ → List ℕ → Outcome × List ℕ
described true o old = o
described false o old = (refused 16, old)

-- a writer's answer and the area that it leaves are the given ones
pub record Does (o : Outcome × List ℕ) (r : Written) (new : List ℕ) : Type 0 where
  pub says : outcome r ≡ o.0
  pub area : new ≡ o.1
