-- A unit, and the same unit with another record of one protected tag: what each step of the store says to who has neither password, and what it leaves. First lists in
-- which the record with a number is another, then verdicts, then the steps. The laws of admission and of the store's steps are theirs.
use Prim.Native.Nat.{ℕ}
use mathlib.Core.Path.{◌≡◌, refl, sym, ap, ◌∙◌}
use mathlib.Core.Bool.{Bool, true, cond}
use mathlib.Core.List.{List, [], ◌∷◌, ◌++◌}
use native.Mathlib.Omega.{arith}
use native.Mathlib.Decide.{ℕ_discrete}
use lib.ListN.{length}
use lib.Dec.{eqb}
use borrow.Author.Tests.{eq-eqb, ne_eqb}
use Rattle.octets.specs.Number.{bare}
use Rattle.octets.specs.declared.Access.{Access}
use Rattle.octets.specs.declared.Access.TheVariants.{Plain, Password}
use Rattle.octets.specs.declared.Port.{Port}
use Rattle.resources.specs.declared.Resource.{Resource}
use Rattle.admission.specs.Admission.{lock_bars}
use Rattle.admission.specs.Want.{Want, Allocate, Free, Read, Write}
use Rattle.admission.specs.declared.Mode.{Mode}
use Rattle.admission.specs.Denial.{Verdict, Allowed, Denied}
use Rattle.admission.proofs.Admitted
use Rattle.rows.specs.Keyed.{nowhere, here, look, change, without, Apart}
use Rattle.rows.proofs.Keys
use Rattle.store.specs.Model.{State, Tag, tag_id, holding, head_of, total, Valid}
use Rattle.store.specs.Steps.{registered, verdict, Step, acted, written, asked, more, write_step, free_step, allocate_step, held_by, content_by, read_step}
use Rattle.store.proofs.Valid.{length-change, write-valid, free-valid, allocate-valid}
use Rattle.store.proofs.Told
use Rattle.responder.specs.Respond.{told_of, room_of}
use Rattle.responder.specs.Demands.{Protected, Spares}

-- ---- lists in which the tag with the number n has the record t

module _ (n : ℕ) (t : Tag) (e : tag_id t ≡ n) where
  -- with that record
  abbrev put : List Tag → List Tag
  put m = change tag_id n (λ r. t) m

  -- it is found
  look-put : (m : List Tag) (s : Tag) → look tag_id n m ≡ here s → look tag_id n (put m) ≡ here t
  unfolding look
  look-put [] s h = absurd (Keys.not-here tag_id (here s) s refl (sym h))
  look-put (r ∷ m) s h = go (ℕ_discrete (tag_id r) n) (look-put m s)
    where
      go : Dec (tag_id r ≡ n) → (look tag_id n m ≡ here s → look tag_id n (put m) ≡ here t) → look tag_id n (put (r ∷ m)) ≡ here t
      go (yes q) f = ap (look tag_id n) (Keys.change-yes tag_id n (λ r. t) r m q) ∙ Keys.look-yes tag_id n t (put m) e
      go (no q) f = ap (look tag_id n) (Keys.change-no tag_id n (λ r. t) r m q) ∙ Keys.look-no tag_id n r (put m) q ∙ f (sym (Keys.look-no tag_id n r m q) ∙ h)

  -- what has another number is found as it was
  look-put-other : (y : ℕ) (m : List Tag) → (y ≡ n → ⊥) → look tag_id y (put m) ≡ look tag_id y m
  unfolding look change
  look-put-other y [] o = refl
  look-put-other y (r ∷ m) o = go (ℕ_discrete (tag_id r) n) (look-put-other y m o)
    where
      go : Dec (tag_id r ≡ n) → look tag_id y (put m) ≡ look tag_id y m → look tag_id y (put (r ∷ m)) ≡ look tag_id y (r ∷ m)
      go (yes q) f =
          ap (look tag_id y) (Keys.change-yes tag_id n (λ r. t) r m q) ∙ Keys.look-no tag_id y t (put m) (λ z. o (sym z ∙ e)) ∙ f
          ∙ sym (Keys.look-no tag_id y r m (λ z. o (sym z ∙ q)))
      go (no q) f = ap (look tag_id y) (Keys.change-no tag_id n (λ r. t) r m q) ∙ ap (cond (eqb (tag_id r) y) (here r)) f

  -- areas of one size: all together take as much
  total-put : (m : List Tag) (s : Tag) → Apart tag_id m → look tag_id n m ≡ here s → s.about.size ≡ t.about.size → total (put m) ≡ total m
  unfolding total look Apart
  total-put [] s a h z = absurd (Keys.not-here tag_id (here s) s refl (sym h))
  total-put (r ∷ m) s a h z = go (ℕ_discrete (tag_id r) n) (total-put m s a.1)
    where
      go : Dec (tag_id r ≡ n) → (look tag_id n m ≡ here s → s.about.size ≡ t.about.size → total (put m) ≡ total m) → total (put (r ∷ m)) ≡ total (r ∷ m)
      go (yes q) f =
          let k : look tag_id n m ≡ nowhere = rw (← q) a.0 in
          let i : here r ≡ here s = sym (Keys.look-yes tag_id n r m q) ∙ h in
          let j : r ≡ s = cc in
          let w : r.about.size ≡ t.about.size = ap (λ (y : Tag). y.about.size) j ∙ z in
          rw (Keys.change-yes tag_id n (λ r. t) r m q, Keys.change-none tag_id n (λ r. t) m k) (omega (arith, w))
      go (no q) f =
          let k : total (put m) ≡ total m = f (sym (Keys.look-no tag_id n r m q) ∙ h) z in
          rw (Keys.change-no tag_id n (λ r. t) r m q) (omega (arith, k))

  -- another tag goes, before or after
  without-put : (y : ℕ) (m : List Tag) → (y ≡ n → ⊥) → without tag_id y (put m) ≡ put (without tag_id y m)
  unfolding change without
  without-put y [] o = refl
  without-put y (r ∷ m) o = go (ℕ_discrete (tag_id r) n) (ℕ_discrete (tag_id r) y) (without-put y m o)
    where
      go : Dec (tag_id r ≡ n) → Dec (tag_id r ≡ y) → without tag_id y (put m) ≡ put (without tag_id y m) → without tag_id y (put (r ∷ m)) ≡ put (without tag_id y (r ∷ m))
      go (yes q) (yes z) f = absurd (o (sym z ∙ q))
      go (yes q) (no z) f = rw (eq-eqb (tag_id r) n q, ne_eqb (tag_id r) y z, ne_eqb (tag_id t) y (λ w. o (sym w ∙ e)), f, eq-eqb (tag_id r) n q)
      go (no q) (yes z) f = rw (ne_eqb (tag_id r) n q, eq-eqb (tag_id r) y z, f)
      go (no q) (no z) f = rw (ne_eqb (tag_id r) n q, ne_eqb (tag_id r) y z, f, ne_eqb (tag_id r) n q)

  -- another tag gets other data, before or after
  written-put : (y : ℕ) (xs : List ℕ) (m : List Tag) → (y ≡ n → ⊥) → change tag_id y (written xs) (put m) ≡ put (change tag_id y (written xs) m)
  unfolding change
  written-put y xs [] o = refl
  written-put y xs (r ∷ m) o = go (ℕ_discrete (tag_id r) n) (ℕ_discrete (tag_id r) y) (written-put y xs m o)
    where
      go : Dec (tag_id r ≡ n) → Dec (tag_id r ≡ y) → change tag_id y (written xs) (put m) ≡ put (change tag_id y (written xs) m)
          → change tag_id y (written xs) (put (r ∷ m)) ≡ put (change tag_id y (written xs) (r ∷ m))
      go (yes q) (yes z) f = absurd (o (sym z ∙ q))
      go (yes q) (no z) f = rw (eq-eqb (tag_id r) n q, ne_eqb (tag_id r) y z, ne_eqb (tag_id t) y (λ w. o (sym w ∙ e)), f, eq-eqb (tag_id r) n q)
      go (no q) (yes z) f = rw (ne_eqb (tag_id r) n q, eq-eqb (tag_id r) y z, f, ne_eqb (tag_id r) n q)
      go (no q) (no z) f = rw (ne_eqb (tag_id r) n q, ne_eqb (tag_id r) y z, f, ne_eqb (tag_id r) n q)

  -- another tag comes last, before or after
  more-put : (r : Tag) (m : List Tag) → (tag_id r ≡ n → ⊥) → put m ++ r ∷ [] ≡ put (m ++ r ∷ [])
  unfolding change
  more-put r [] o = rw (ne_eqb (tag_id r) n o)
  more-put r (w ∷ m) o = ap (λ (z : List Tag). cond (eqb (tag_id w) n) t w ∷ z) (more-put r m o)

-- ---- two records of the tag x, with the passwords a and b

-- the unit with the record t of the tag x
abbrev pub swap : ℕ → Tag → State → State
swap x t u = holding u (change tag_id (bare x) (λ r. t) u.tags)

-- a step, with that record in the unit that it leaves
abbrev pub swap_step : ℕ → Tag → Step → Step
swap_step x t e = record { answer = e.answer; unit = swap x t e.unit }

-- a unit in order, with the record s of the tag x
pub record Holds (x : ℕ) (s : Tag) (u : State) : Type 0 where
  pub valid : Valid u
  pub has : registered u x ≡ here s

module _ (x : ℕ) (s t : Tag) (a b : ℕ) (c : Protected s t a b) where
  -- who carries neither password is barred by both locks
  barred : (k : Access) (y : ℕ) → bare y ≡ bare x → Spares x a b (y, k) → (lock_bars s.about.lock k ≡ true) × (lock_bars t.about.lock k ≡ true)
  barred Plain y e h = rw (c.lock, c.lock') (refl, refl)
  barred (Password w) y e h =
      rw (c.lock, c.lock', ne_eqb a w (λ z. (h e).0 (sym z)), ne_eqb b w (λ z. (h e).1 (sym z))) (refl, refl)

  module _ (u : State) (h : Holds x s u) where
    -- the record t has the tag's number
    numbered : tag_id t ≡ bare x
    unfolding registered
    numbered = sym c.tag ∙ (Keys.stands tag_id s (bare x) u.tags s h.has).has

    -- as many tags
    count_same : length (swap x t u).tags ≡ length u.tags
    count_same = length-change (bare x) (λ r. t) u.tags

    -- and as many octets taken
    used-same : total (swap x t u).tags ≡ total u.tags
    unfolding registered
    used-same = total-put (bare x) t numbered u.tags s h.valid.apart h.has c.size

    -- the tag itself has the record t
    pub has-swap : registered (swap x t u) x ≡ here t
    unfolding registered
    has-swap = look-put (bare x) t numbered u.tags s h.has

    -- any other tag is as it was
    pub other-swap : (y : ℕ) → (bare y ≡ bare x → ⊥) → registered (swap x t u) y ≡ registered u y
    unfolding registered
    other-swap y o = look-put-other (bare x) t numbered (bare y) u.tags o

    -- a tag that differs in the six bits only is the same
    same_tag : (v : State) (y : ℕ) → bare y ≡ bare x → registered v y ≡ registered v x
    unfolding registered
    same_tag v y e = ap (λ (z : ℕ). look tag_id z v.tags) e

    module _ (y : ℕ) (k : Access) (spares : Spares x a b (y, k)) where
      -- both units give the same verdict
      pub verdict-swap : (w : Want) (p : Port) → verdict (swap x t u) y w p k ≡ verdict u y w p k
      verdict-swap w p = go (ℕ_discrete (bare y) (bare x))
        where
          go : Dec (bare y ≡ bare x) → verdict (swap x t u) y w p k ≡ verdict u y w p k
          go (yes e) =
              let l = barred k y e spares in
              Told.found (swap x t u) y p k w (here t) (same_tag (swap x t u) y e ∙ has-swap)
              ∙ Admitted.barred-alike (head_of (swap x t u)) (head_of u) p k k t.about s.about w (sym c.tag) (sym c.spf) l.1 l.0
              ∙ sym (Told.found u y p k w (here s) (same_tag u y e ∙ h.has))
          go (no o) = rw (other-swap y o, count_same, used-same)

      -- and what is allowed is allowed of another tag
      pub allowed-other : (w : Want) (p : Port) → verdict u y w p k ≡ Allowed → bare y ≡ bare x → ⊥
      allowed-other w p v e =
          Admitted.barred-denied (head_of u) p k s.about w (barred k y e spares).0 (sym (Told.found u y p k w (here s) (same_tag u y e ∙ h.has)) ∙ v)

    -- resource information tells the same of both
    pub told_same : (y : ℕ) (rs : List Resource) → told_of (registered (swap x t u) y) rs ≡ told_of (registered u y) rs
    told_same y rs = go (ℕ_discrete (bare y) (bare x))
      where
        go : Dec (bare y ≡ bare x) → told_of (registered (swap x t u) y) rs ≡ told_of (registered u y) rs
        go (yes e) = rw (same_tag (swap x t u) y e, same_tag u y e, has-swap, h.has, c.tag, c.size, c.mode, c.spf, c.held)
        go (no o) = rw (other-swap y o)

    -- and the same of the room that is left
    pub room-same : room_of (swap x t u) ≡ room_of u
    room-same = rw (count_same, used-same)

  -- ---- the steps: the same answer, and the same unit left but for the record of the tag

  -- what is done by a verdict
  acted-swap : (u : State) (v : Verdict) (m m' : List Tag) → (v ≡ Allowed → m' ≡ change tag_id (bare x) (λ r. t) m) → acted (swap x t u) v m' ≡ swap_step x t (acted u v m)
  acted-swap u Allowed m m' f = rw (f refl)
  acted-swap u (Denied d) m m' f = refl

  -- what a read gives by a verdict
  content-same : (v : Verdict) (xs ys : List ℕ) → (v ≡ Allowed → xs ≡ ys) → content_by v xs ≡ content_by v ys
  content-same Allowed xs ys f = rw (f refl)
  content-same (Denied d) xs ys f = refl

  module _ (u : State) (h : Holds x s u) (p : Port) (y : ℕ) (k : Access) (spares : Spares x a b (y, k)) where
    -- a read
    pub read-swap : read_step (swap x t u) y p k ≡ read_step u y p k
    unfolding read_step
    read-swap =
        ap (λ (v : Verdict). content_by v (held_by (registered (swap x t u) y))) (verdict-swap u h y k spares Read p)
        ∙ content-same (verdict u y Read p k) _ _ (λ e. ap held_by (other-swap u h y (allowed-other u h y k spares Read p e)))

    -- a write
    pub write-swap : (xs : List ℕ) → write_step (swap x t u) y xs p k ≡ swap_step x t (write_step u y xs p k)
    unfolding write_step
    write-swap xs =
        ap (λ (v : Verdict). acted (swap x t u) v (change tag_id (bare y) (written xs) (swap x t u).tags)) (verdict-swap u h y k spares (Write (length xs)) p)
        ∙ acted-swap u (verdict u y (Write (length xs)) p k) _ _ (λ e.
        written-put (bare x) t (numbered u h) (bare y) xs u.tags (allowed-other u h y k spares (Write (length xs)) p e))

    -- a free
    pub free-swap : free_step (swap x t u) y p k ≡ swap_step x t (free_step u y p k)
    unfolding free_step
    free-swap =
        ap (λ (v : Verdict). acted (swap x t u) v (without tag_id (bare y) (swap x t u).tags)) (verdict-swap u h y k spares Free p)
        ∙ acted-swap u (verdict u y Free p k) _ _ (λ e.
        without-put (bare x) t (numbered u h) (bare y) u.tags (allowed-other u h y k spares Free p e))

    -- an allocation
    pub allocate-swap : (size : ℕ) (mode : Mode) (spf : Bool) → allocate_step (swap x t u) y size mode spf p k ≡ swap_step x t (allocate_step u y size mode spf p k)
    unfolding allocate_step
    allocate-swap size mode spf =
        ap (λ (v : Verdict). acted (swap x t u) v (more (swap x t u) (asked y size mode spf k) [])) (verdict-swap u h y k spares (Allocate (asked y size mode spf k)) p)
        ∙ acted-swap u (verdict u y (Allocate (asked y size mode spf k)) p k) _ _ (λ e.
        more-put (bare x) t (numbered u h) (record { about = asked y size mode spf k; held = [] }) u.tags
        (allowed-other u h y k spares (Allocate (asked y size mode spf k)) p e))

    -- ---- and the tag keeps the record s

    -- a write
    pub write-holds : (xs : List ℕ) → Holds x s (write_step u y xs p k).unit
    unfolding write_step registered
    write-holds xs = record {
      valid = write-valid u y xs p k h.valid;
      has =
          Told.left (λ v. registered v x ≡ here s) u (verdict u y (Write (length xs)) p k) _ h.has (λ e.
          Keys.look-change-other tag_id (bare x) (bare y) (written xs) (λ r. refl) (λ z. allowed-other u h y k spares (Write (length xs)) p e (sym z)) u.tags ∙ h.has);
    }

    -- a free
    pub free-holds : Holds x s (free_step u y p k).unit
    unfolding free_step registered
    free-holds = record {
      valid = free-valid u y p k h.valid;
      has =
          Told.left (λ v. registered v x ≡ here s) u (verdict u y Free p k) _ h.has (λ e.
          Keys.look-without-other tag_id (bare x) (bare y) (λ z. allowed-other u h y k spares Free p e (sym z)) u.tags ∙ h.has);
    }

    -- an allocation
    pub allocate_holds : (size : ℕ) (mode : Mode) (spf : Bool) → Holds x s (allocate_step u y size mode spf p k).unit
    unfolding allocate_step registered
    allocate_holds size mode spf = record {
      valid = allocate-valid u y size mode spf p k h.valid;
      has =
          Told.left (λ v. registered v x ≡ here s) u (verdict u y (Allocate (asked y size mode spf k)) p k) _ h.has (λ e.
          Keys.look-add-other tag_id (bare x) _ u.tags (allowed-other u h y k spares (Allocate (asked y size mode spf k)) p e) ∙ h.has);
    }
