-- What `admission` goes by: what the unit knows of a tag, and what an operation wants with it. No function hands these over; each of lib.rt has its own parameters.
use Rattle.std.specs.Prelude.{ℕ, Bool, true, false}
use Rattle.admission.specs.declared.Attributes.{Attributes}

-- what the unit knows of the tag that an operation names
pub data Known : Type 0 where
  Tag : Attributes → Known
  Nothing : Known

-- whether the tag is registered
abbrev pub is_tag : Known → Bool
is_tag (Tag t) = true
is_tag Nothing = false

-- what an operation wants: a new tag, or something of one that is registered. Of a fitting, which is the vehicle's call, and of a write the number is the data's length
pub data Want : Type 0 where
  Allocate : Attributes → Want
  Fit : Attributes → ℕ → Want
  Free : Want
  Read : Want
  Write : ℕ → Want
