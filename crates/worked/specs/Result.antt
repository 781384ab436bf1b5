-- What a writer answered, as one number.
use Rattle.std.specs.Prelude.{ℕ}
use Rattle.octets.specs.Area.{Outcome, done, refused}

-- the length of the message that was written, or document 01's number
abbrev pub number_of : Outcome → ℕ
number_of (done n) = n
number_of (refused n) = n
