-- Start gives a sound unit, and every operation leaves one: what an operation promises is all that the next one takes for granted. And the head's count of octets in
-- use, over the unit's history.
use Rattle.std.specs.Prelude.{Option, Some, None}
use Prim.Native.Nat.{ℕ, ◌+◌, ◌*◌, ◌≤◌, ◌<◌}
use mathlib.Core.Path.{◌≡◌, refl, ap, ◌∙◌}
use mathlib.Core.Bool.{Bool}
use mathlib.Core.List.{List}
use native.Mathlib.Omega.{arith}
use lib.ListN.{replicate}
use borrow.Author.Tests.{lt-ltb, le-ltb}
use Rattle.admission.specs.declared.Head.{Head}
use Rattle.admission.specs.declared.Limits.{Limits}
use Rattle.admission.specs.Denial.{Verdict}
use Rattle.rows.specs.Row.{words}
use Rattle.rows.proofs.Images
use Rattle.store.specs.Answers.{begun, started, refused, made, Did}
use Rattle.store.specs.History.{Call, after_all, all_granted, all_freed}
use Rattle.store.specs.Model.{new_unit, first_kind, head_of, located, arranged, area, Shared, Shows, Sound}
use Rattle.store.specs.Steps.{Step}
use Rattle.store.proofs.History.{history}
use Rattle.store.proofs.States.{used-is}
use Rattle.store.proofs.Valid.{new-valid}

-- ---- a start

-- a table and a memory of zeros, of any kind's lengths, stand for a unit without tags
pub new-shows : (l : Limits) (v : ℕ) (a p : Bool) → Shared l → v ≤ 15
    → Shows (new_unit l v a p) (head_of (new_unit l v a p)) (replicate (l.tags * 8) 0) (replicate l.memory 0)
unfolding arranged located
new-shows l v a p s h = record {
  head = refl;
  rows = Images.image-none words (l.tags * 8);
  octets = Images.image-none area l.memory;
  valid = new-valid l v a p s h;
}

-- the answer of a start: for a version above 15 none is made
pub start-refused : (r : Option Head) (l : Limits) (v : ℕ) (a p : Bool) → begun r ≡ started l v a p → 15 < v → r ≡ None
unfolding started
start-refused (Some h) l v a p e q =
    let b : made h ≡ refused 301 = e ∙ rw (lt-ltb 15 v q) in
    let z : ◌≡◌ {A = ℕ} 0 1 = cc in absurd (omega arith)
start-refused None l v a p e q = refl

-- and for any other the new unit's head
pub start-made : (r : Option Head) (l : Limits) (v : ℕ) (a p : Bool) → begun r ≡ started l v a p → v ≤ 15 → r ≡ Some (head_of (new_unit l v a p))
unfolding started
start-made (Some h) l v a p e q =
    let b : made h ≡ made (head_of (new_unit l v a p)) = e ∙ rw (le-ltb 15 v q) in
    let c : h ≡ head_of (new_unit l v a p) = cc in
    ap Some c
start-made None l v a p e q =
    let b : refused 301 ≡ made (head_of (new_unit l v a p)) = e ∙ rw (le-ltb 15 v q) in
    let z : ◌≡◌ {A = ℕ} 0 1 = cc in absurd (omega arith)

first-shared : Shared first_kind
first-shared = record { area = omega arith; message = refl; list = refl }

-- the head that Unit::start gives, with the table and memory of Unit::new, is a sound unit
pub start-sound : (h : Head) (v : ℕ) (a p : Bool) (table pool : List ℕ) → begun (Some h) ≡ started first_kind v a p → v ≤ 15
    → (table ≡ replicate (first_kind.tags * 8) 0) × (pool ≡ replicate first_kind.memory 0) → Shows (new_unit first_kind v a p) h table pool
start-sound h v a p table pool e q n =
    let b : Some h ≡ Some (head_of (new_unit first_kind v a p)) = start-made (Some h) first_kind v a p e q in
    let c : h ≡ head_of (new_unit first_kind v a p) = cc in
    rw (c, n.0, n.1) (new-shows first_kind v a p first-shared q)

-- ---- the operations

-- what an operation that changes the unit leaves is sound
pub did-sound : (s : Step) (r : Verdict) (h : Head) (table pool : List ℕ) → Did s r h table pool → Sound h table pool
did-sound s r h table pool d = record { unit = s.unit; shown = d.left }

-- the head's octets in use are those granted less those freed since the start
pub used-history : (l : Limits) (v : ℕ) (a p : Bool) (cs : List Call) (h : Head) (table pool : List ℕ) → Shared l → v ≤ 15
    → Shows (after_all (new_unit l v a p) cs) h table pool → h.used + all_freed (new_unit l v a p) cs ≡ all_granted (new_unit l v a p) cs
used-history l v a p cs h table pool k q s = omega (arith, used-is _ _ _ _ s, history l v a p cs k q)
