-- Why a unit denies, by number, and what becomes of an operation.
use Rattle.std.specs.Prelude.{ℕ, Result, Ok, Err}
use Rattle.admission.specs.declared.Denial.{Denial}
use Rattle.admission.specs.declared.Denial.TheVariants as d

-- document 01's number of each denial
abbrev pub number : Denial → ℕ
number d.Version = 4
number d.Room = 5
number d.Tag = 6
number d.List = 7
number d.Mode = 8
number d.Size = 9
number d.Password = 10
number d.Port = 11
number d.Option = 12
number d.Octets = 16

-- what becomes of an operation: it is let through, or the number denies it
pub data Verdict : Type 0 where
  Allowed : Verdict
  Denied : ℕ → Verdict

-- what an outcome says of that
abbrev pub verdict_of : {A : Type 0} → Result A Denial → Verdict
verdict_of (Ok a) = Allowed
verdict_of (Err d) = Denied (number d)
