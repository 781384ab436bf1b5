-- What the gate's writers and readers give: a writer's number, words that fill a lent slice, and the words of an answer.
use Prim.Native.Nat.{ℕ, ◌≤◌, ◌<◌}
use mathlib.Core.Path.{◌≡◌, refl, ap, ◌∙◌}
use mathlib.Core.List.{List}
use native.Mathlib.Omega.{arith}
use lib.IntN.{ℤ}
use lib.ListN.{length, get_or}
use lib.Dec.{ltb}
use lib.Seq.{sets}
use borrow.Author.Tests.{lt-ltb, le-ltb}
use Rattle.octets.specs.Area.{Written, Outcome, done, refused, outcome, Does}
use Rattle.octets.specs.Reading.{fault_number}
use Rattle.octets.specs.declared.Fault.{Fault}
use Rattle.octets.specs.declared.Fault.TheVariants as t
use Rattle.octets.specs.declared.Form.{Form}
use Rattle.octets.specs.declared.Form.TheVariants as f
use Rattle.octets.proofs.Places.{pick_same}
use Rattle.requests.specs.Command.{form_number}
use Rattle.answers.specs.View.{given_kind}
use Rattle.answers.specs.declared.Given.{Given}
use Rattle.answers.specs.declared.Given.TheVariants as g
use Rattle.capi.specs.Result.{number_of}
use Rattle.capi.specs.Gate.{Gives, filled, given_words, short}
use Rattle.capi.proofs.Words.{front}

-- a writer's number is that of what it wrote
pub gives : {o : Outcome × List ℕ} {x : Written} {r : ℤ} {new : List ℕ} → Does o x new → r ≡ number_of (outcome x) → Gives o r new
gives d e = record { says = e ∙ ap number_of d.says; area = d.area }

-- a number that is handed on
pub regives : {o : Outcome × List ℕ} {z r : ℤ} {new : List ℕ} → Gives o z new → r ≡ z → Gives o r new
regives d e = record { says = e ∙ d.says; area = d.area }

-- ---- words that fill a lent slice

module _ (n : ℕ) (words old : List ℕ) {r : ℤ} where
  pub filled-short : length old < length words → r ≡ number_of (refused 300) → Gives (filled n words old) r old
  unfolding filled
  filled-short h e = rw (lt-ltb (length old) (length words) h) (record { says = e; area = refl })

  pub filled-done : (new : List ℕ) → length words ≤ length old → r ≡ number_of (done n) → new ≡ sets old 0 words → Gives (filled n words old) r new
  unfolding filled
  filled-done new h e q = rw (le-ltb (length old) (length words) h) (record { says = e; area = q ∙ front old words h })

-- ---- octets that are over 2,048, or no entry

module _ (s old : List ℕ) (o : Outcome × List ℕ) {r : ℤ} where
  pub short-bad : o ≡ (refused 16, old) → r ≡ number_of (refused 16) → Gives (short s o old) r old
  short-bad e q = rw (e, pick_same {A = Outcome × List ℕ} (ltb 2048 (length s)) (refused 16, old)) (record { says = q; area = refl })

  pub short-long : 2048 < length s → r ≡ number_of (refused 16) → Gives (short s o old) r old
  short-long h q = rw (lt-ltb 2048 (length s) h) (record { says = q; area = refl })

  pub short-fine : {new : List ℕ} → length s ≤ 2048 → Gives o r new → Gives (short s o old) r new
  short-fine h d = rw (le-ltb 2048 (length s) h) d

-- every fault is 16
pub fault-is : (x : Fault) → fault_number x ≡ 16
fault-is t.Missing = refl
fault-is t.Longer = refl
fault-is t.High = refl
fault-is t.Other = refl

-- ---- the words of an answer

form-low : (w : Form) → form_number w ≤ 64
form-low f.Plain = omega arith
form-low f.Password = omega arith

-- the first is its type, an octet
pub kind-low : (x : Given) → given_kind x < 256
kind-low (g.Resources x list) = omega arith
kind-low (g.Allocate w tag) = omega (arith, form-low w)
kind-low (g.Free w tag) = omega (arith, form-low w)
kind-low (g.Read w tag p) = omega (arith, form-low w)
kind-low (g.Write w tag) = omega (arith, form-low w)
kind-low (g.BulkRead w list) = omega (arith, form-low w)
kind-low (g.BulkWrite w list) = omega (arith, form-low w)

pub kind-first : (version : ℕ) (x : Given) → get_or (given_words version x) 0 0 ≡ given_kind x
kind-first version (g.Resources x list) = refl
kind-first version (g.Allocate w tag) = refl
kind-first version (g.Free w tag) = refl
kind-first version (g.Read w tag p) = refl
kind-first version (g.Write w tag) = refl
kind-first version (g.BulkRead w list) = refl
kind-first version (g.BulkWrite w list) = refl
