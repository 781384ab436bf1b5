-- Sequences of operations, and what they granted and freed. Document 01, 'Lists': "The octets in use always equal the sizes granted less the sizes freed over the
-- unit's history, a fitted tag counting as granted."
use Rattle.std.specs.Prelude.{ℕ, ◌+◌, Bool, List, [], ◌∷◌}
use Rattle.octets.specs.declared.Access.{Access}
use Rattle.octets.specs.declared.Port.{Port}
use Rattle.admission.specs.declared.Mode.{Mode}
use Rattle.admission.specs.Denial.{Verdict, Allowed, Denied}
use Rattle.rows.specs.Keyed.{Maybe, nowhere, here}
use Rattle.store.specs.Model.{Tag, State}
use Rattle.store.specs.Steps.{Step, write_step, free_step, allocate_step, fit_step, registered}

-- an operation with all that it is told. To find a tag, to read one or to ask what remains changes nothing, as a call that is refused
pub data Call : Type 0 where
  allocate : ℕ → ℕ → Mode → Bool → Port → Access → Call
  fit : ℕ → ℕ → Mode → Bool → Access → List ℕ → Call
  free : ℕ → Port → Access → Call
  write : ℕ → List ℕ → Port → Access → Call
  ask : Call

-- the tag that a call names
abbrev pub named : Call → Maybe ℕ
named (allocate x size mode spf p a) = here x
named (fit x size mode spf lock xs) = here x
named (free x p a) = here x
named (write x xs p a) = here x
named ask = nowhere

-- what a call is answered, and the unit that it leaves
abbrev pub step : State → Call → Step
step u (allocate x size mode spf p a) = allocate_step u x size mode spf p a
step u (fit x size mode spf lock xs) = fit_step u x size mode spf lock xs
step u (free x p a) = free_step u x p a
step u (write x xs p a) = write_step u x xs p a
step u ask = record { answer = Allowed; unit = u }

-- the unit that a call leaves
abbrev pub after : State → Call → State
after u c = (step u c).unit

-- n if it was accepted
abbrev pub if_allowed : Verdict → ℕ → ℕ
if_allowed Allowed n = n
if_allowed (Denied d) n = 0

-- the size that a call asks for, "a fitted tag counting as granted"
abbrev pub wanted : Call → ℕ
wanted (allocate x size mode spf p a) = size
wanted (fit x size mode spf lock xs) = size
wanted (free x p a) = 0
wanted (write x xs p a) = 0
wanted ask = 0

-- "the sizes granted", by one call
abbrev pub granted : State → Call → ℕ
granted u c = if_allowed (step u c).answer (wanted c)

-- the size of a tag that was found
abbrev pub size_by : Maybe Tag → ℕ
size_by nowhere = 0
size_by (here t) = t.about.size

-- the size that a call gives back
abbrev pub returned : State → Call → ℕ
returned u (allocate x size mode spf p a) = 0
returned u (fit x size mode spf lock xs) = 0
returned u (free x p a) = size_by (registered u x)
returned u (write x xs p a) = 0
returned u ask = 0

-- "the sizes freed", by one call
abbrev pub freed : State → Call → ℕ
freed u c = if_allowed (step u c).answer (returned u c)

-- ---- over a sequence of calls

-- the unit that they leave
unfoldable pub after_all : State → List Call → State
after_all u [] = u
after_all u (c ∷ cs) = after_all (after u c) cs

-- "the sizes granted" by them all
unfoldable pub all_granted : State → List Call → ℕ
all_granted u [] = 0
all_granted u (c ∷ cs) = granted u c + all_granted (after u c) cs

-- "the sizes freed over the unit's history"
unfoldable pub all_freed : State → List Call → ℕ
all_freed u [] = 0
all_freed u (c ∷ cs) = freed u c + all_freed (after u c) cs
