-- What start, respond and fit give and do: by document 01's definitions (store and responder), on the slices that stand for the unit. What a call passes that is not
-- the unit's memory is tested first.
use Rattle.std.specs.Prelude.{ℕ, ◌≡◌, Bool, true, false, cond, List, ℤ, length, eqb, ltb}
use Rattle.octets.specs.Area.{done, refused}
use Rattle.octets.specs.declared.Access.{Access}
use Rattle.octets.specs.declared.Access.TheVariants.{Plain, Password}
use Rattle.octets.specs.declared.Form.{Form}
use Rattle.octets.specs.declared.Form.TheVariants as f
use Rattle.octets.specs.declared.Port.{Port}
use Rattle.octets.specs.declared.Port.TheVariants.{Normal, Secure}
use Rattle.store.specs.Model.{State, new_unit, first_kind}
use Rattle.store.specs.Steps.{Step}
use Rattle.responder.specs.Entry.{word_for, area_for}
use Rattle.responder.specs.Respond.{Line, number, none, Out, respond}
use Rattle.capi.specs.Result.{number_of, judged, worded}
use Rattle.capi.specs.Slices.{Slices, lent, Holds}

-- ---- what numbers stand for

-- "port (0 normal, 1 secure)"
abbrev pub port_of : ℕ → Port
port_of n = cond (eqb n 1) Secure Normal

-- the access that a call passes: a password, or none
abbrev pub access_of : Bool → ℕ → Access
access_of true password = Password password
access_of false password = Plain

-- the form of a list that a call passes: each entry with its password, or none
abbrev pub form_for : Bool → Form
form_for true = f.Password
form_for false = f.Plain

-- ---- what is refused before a unit is looked at: a number that is too great, then slices of other lengths than a unit's

-- the number of what is too great; then 300, for slices that are no unit's
abbrev pub barred_by : Bool → ℕ → Slices → Line
barred_by high n x = cond high (number n) (cond (lent x) none (number 300))

-- "Start gives 301 for a version above 15 and makes no unit."
abbrev pub start_line : ℕ → Slices → Line
start_line version x = barred_by (ltb 15 version) 301 x

-- "a port above 1"
abbrev pub port_line : ℕ → Slices → Line
port_line port x = barred_by (ltb 1 port) 16 x

-- a mode above 2: 0 is both, 1 write only, 2 read only
abbrev pub mode_line : ℕ → Slices → Line
mode_line mode x = barred_by (ltb 2 mode) 16 x

-- ---- start

-- a refusal touches nothing; otherwise the slices become a new unit, whatever they held
pub record Starts (version : ℕ) (allocation passwords : Bool) (old : Slices) (r : ℤ) (new : Slices) : Type 0 where
  pub barred : (n : ℕ) → start_line version old ≡ number n → (r ≡ number_of (refused n)) × (new ≡ old)
  pub made : start_line version old ≡ none → (r ≡ number_of (done 0)) × Holds (new_unit first_kind version allocation passwords) new

-- ---- respond

-- number, answer area and unit are those of the responder's definition
pub record Answers (o : Out) (r : ℤ) (area area' : List ℕ) (new : Slices) : Type 0 where
  pub says : r ≡ number_of (worded (word_for o.result))
  pub written : area' ≡ area_for o.result area
  pub left : Holds o.unit new

-- a refusal touches nothing; otherwise the unit is asked
pub record Responds (port : ℕ) (request : List ℕ) (old : Slices) (area : List ℕ) (r : ℤ) (new : Slices) (area' : List ℕ) : Type 0 where
  pub barred : (n : ℕ) → port_line port old ≡ number n → (r ≡ number_of (refused n)) × (new ≡ old) × (area' ≡ area)
  pub answered : port_line port old ≡ none → (u : State) → Holds u old → Answers (respond u (port_of port) request (length area)) r area area' new

-- ---- fit

-- number and unit are those of the step, which a unit takes
pub record Does (step : Step) (r : ℤ) (new : Slices) : Type 0 where
  pub says : r ≡ number_of (judged step.answer)
  pub left : Holds step.unit new

-- "A refusal of either leaves all as it was."
pub record Fits (mode : ℕ) (step : State → Step) (old : Slices) (r : ℤ) (new : Slices) : Type 0 where
  pub barred : (n : ℕ) → mode_line mode old ≡ number n → (r ≡ number_of (refused n)) × (new ≡ old)
  pub fitted : mode_line mode old ≡ none → (u : State) → Holds u old → Does (step u) r new
