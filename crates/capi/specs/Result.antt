-- The number that every function of this crate gives its caller: what there is to tell where all went well, zero included, and minus document 01's number where it was
-- refused.
use Rattle.std.specs.Prelude.{ℕ, ℤ, pos, neg_ℤ, ◌≤◌, Some, None, Result, Ok, Err}
use Rattle.octets.specs.Area.{Outcome, done, refused, Written}
use Rattle.admission.specs.Denial.{Verdict}
use Rattle.admission.specs.Denial as v
use Rattle.responder.specs.Entry.{Word, length-is, refusal, Sent}
use Rattle.capi.specs.declared.Refusal.{Refusal}
use Rattle.capi.specs.declared.Refusal.TheVariants as r

-- what there is to tell, or minus the number of the refusal
abbrev pub number_of : Outcome → ℤ
number_of (done n) = pos n
number_of (refused n) = neg_ℤ (pos n)

-- document 01's number of each refusal
abbrev pub number : Refusal → ℕ
number r.Value = 16
number r.Room = 300
number r.Version = 301
number (r.Denied d) = v.number d

-- what a function tells, or why it refuses
abbrev pub outcome_of : Result ℕ Refusal → Outcome
outcome_of (Ok n) = done n
outcome_of (Err x) = refused (number x)

-- a fitting is done, or has the number that refuses it
abbrev pub judged : Verdict → Outcome
judged v.Allowed = done 0
judged (v.Denied n) = refused n

-- the length of an answer, or 300
abbrev pub worded : Word → Outcome
worded (length-is n) = done n
worded (refusal n) = refused n

-- a length that the number can tell: no message is longer
abbrev pub WrittenShort : Written → Type 0
WrittenShort (Ok n) = n ≤ 2048
WrittenShort (Err e) = Unit {0}

-- nor any answer
abbrev pub SentShort : Sent → Type 0
SentShort (Some n) = n ≤ 2048
SentShort None = Unit {0}
