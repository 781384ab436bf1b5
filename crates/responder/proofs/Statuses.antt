-- The numbers that a denial may have: document 01, 'Denials and their order', and no others. The verdicts of admission and what a read gives, by those numbers.
-- Used of whole replies in proofs/Refusals, and in proofs/Writable, where a status must fit its octet.
use Prim.Native.Nat.{ℕ, ◌<◌, ◌≤◌}
use mathlib.Core.Path.{◌≡◌, refl}
use mathlib.Core.Bool.{Bool, true, false, not, ◌&&◌, ◌||◌, cond}
use mathlib.Core.List.{List, [], ◌∷◌}
use native.Mathlib.Omega.{arith}
use Rattle.std.proofs.Common.{rules}
use lib.ListN.{length}
use lib.Dec.{eqb, ltb}
use borrow.Author.Tests.{eqb-true, ltb-true, not-true}
use Rattle.octets.specs.Number.{bare}
use Rattle.octets.specs.declared.Access.{Access}
use Rattle.octets.specs.declared.Port.{Port}
use Rattle.octets.proofs.Places.{both, false-true}
use Rattle.admission.specs.Admission.{admission}
use Rattle.admission.specs.Want.{Known, Want, Allocate, Free, Read, Write}
use Rattle.admission.specs.declared.Head.{Head}
use Rattle.admission.specs.declared.Mode.{Mode}
use Rattle.admission.specs.Denial.{Verdict, Allowed, Denied}
use Rattle.rows.specs.Keyed.{Maybe, nowhere, here}
use Rattle.store.specs.Model.{State, Tag, Proper, Valid, head_of}
use Rattle.store.specs.Steps.{registered, known_of, verdict, asked, Content, content, denied, held_by, content_by, write_step, free_step, allocate_step, read_step}
use Rattle.store.proofs.Told
use Rattle.store.proofs.Valid.{each-look}
use Rattle.responder.specs.Respond.{Line, number, none, first_lines}

-- 16, 4, 12 and 7 by the lines before the operation; 6, 11, 10, 8, 9 and 5 by admission
abbrev pub statuses : List ℕ
statuses = 4 ∷ 5 ∷ 6 ∷ 7 ∷ 8 ∷ 9 ∷ 10 ∷ 11 ∷ 12 ∷ 16 ∷ []

-- a number stands in a list
abbrev pub among : ℕ → List ℕ → Bool
among n [] = false
among n (x ∷ l) = eqb n x || among n l

-- each number of a list passes a test
abbrev pub each : (ℕ → Bool) → List ℕ → Bool
each p [] = true
each p (x ∷ l) = p x && each p l

-- and so does a number that stands in the list
pub among-passes : (p : ℕ → Bool) (n : ℕ) (l : List ℕ) → each p l ≡ true → among n l ≡ true → p n ≡ true
among-passes p n [] h e = absurd (false-true e)
among-passes p n (x ∷ l) h e = let b = both (p x) (each p l) h in go (eqb n x) refl b.0 e (λ q. among-passes p n l b.1 q)
  where
    go : (b : Bool) → eqb n x ≡ b → p x ≡ true → (b || among n l) ≡ true → (among n l ≡ true → p n ≡ true) → p n ≡ true
    go true q k e r = rw (eqb-true n x q) k
    go false q k e r = r e

-- a status fits its octet
pub status-small : (n : ℕ) → among n statuses ≡ true → n < 256
status-small n e = ltb-true n 256 (among-passes (λ x. ltb x 256) n statuses refl e)

-- what holds of both holds of either
pub either : {A : Type 0} (P : A → Type 0) (b : Bool) (x y : A) → P x → P y → P (cond b x y)
either P true x y h k = h
either P false x y h k = k

-- ---- verdicts

-- a verdict's number is a status
abbrev pub Listed : Verdict → Type 0
Listed Allowed = Unit {0}
Listed (Denied n) = among n statuses ≡ true

-- of every verdict
pub admission-listed : (h : Head) (k : Known) (w : Want) (p : Port) (a : Access) → Listed (admission h k w p a)
unfolding admission
admission-listed h k w p a = search rules

module _ (u : State) (x : ℕ) (p : Port) (a : Access) where
  -- so of what a unit says to any want
  pub verdict-listed : (w : Want) → Listed (verdict u x w p a)
  verdict-listed w = admission-listed (head_of u) (known_of (registered u x)) w p a

  -- of an allocation
  pub allocate-listed : (size : ℕ) (mode : Mode) (spf : Bool) → Listed (allocate_step u x size mode spf p a).answer
  unfolding allocate_step
  allocate-listed size mode spf =
      let w = Allocate (asked x size mode spf a) in
      rw (Told.answer-is u (verdict u x w p a) _) (verdict-listed w)

  -- of a free
  pub free-listed : Listed (free_step u x p a).answer
  unfolding free_step
  free-listed = rw (Told.answer-is u (verdict u x Free p a) _) (verdict-listed Free)

  -- of a write
  pub write-listed : (xs : List ℕ) → Listed (write_step u x xs p a).answer
  unfolding write_step
  write-listed xs = rw (Told.answer-is u (verdict u x (Write (length xs)) p a) _) (verdict-listed (Write (length xs)))

-- ---- reads

-- data within an area, or a status
abbrev pub Given : State → Content → Type 0
Given u (content xs) = length xs ≤ u.limits.area
Given u (denied n) = among n statuses ≡ true

-- what is held lies within an area
pub held_small : (u : State) (x : ℕ) → Valid u → length (held_by (registered u x)) ≤ u.limits.area
unfolding registered
held_small u x o = go (registered u x) refl
  where
    go : (r : Maybe Tag) → registered u x ≡ r → length (held_by r) ≤ u.limits.area
    go nowhere e = omega arith
    go (here t) e = let k = each-look (Proper u.limits) (bare x) u.tags t e o.proper in omega (arith, k.fits, k.small)

-- of every read
pub read-given : (u : State) (x : ℕ) (p : Port) (a : Access) → Valid u → Given u (read_step u x p a)
unfolding read_step
read-given u x p a o = go (verdict u x Read p a) (verdict-listed u x p a Read)
  where
    go : (v : Verdict) → Listed v → Given u (content_by v (held_by (registered u x)))
    go Allowed l = held_small u x o
    go (Denied n) l = l

-- ---- the lines before the operation

-- their numbers
abbrev pub early : List ℕ
early = 4 ∷ 12 ∷ 16 ∷ []

-- are statuses
pub early-status : (n : ℕ) → among n early ≡ true → among n statuses ≡ true
early-status n e = among-passes (λ x. among x statuses) n early refl e

-- and 5 is none of them
pub early-five : (n : ℕ) → among n early ≡ true → eqb n 5 ≡ false
early-five n e = not-true (eqb n 5) (among-passes (λ x. not (eqb x 5)) n early refl e)

-- a line's number is one of them
abbrev pub ListedLine : Line → Type 0
ListedLine (number n) = among n early ≡ true
ListedLine none = Unit {0}

-- of every request
pub lines-listed : (u : State) (s : List ℕ) → ListedLine (first_lines u s)
unfolding first_lines
lines-listed u s = search rules
