-- The octets in use over any sequence of calls, and exactly when room is refused. Document 01, 'Lists': "The octets in use always equal the sizes granted less
-- the sizes freed over the unit's history, a fitted tag counting as granted." And 5: "if 32 tags exist or the sizes of all areas plus the new one exceed 8,192".
use Prim.Native.Nat.{ℕ, ◌+◌, ◌<◌, ◌≤◌}
use mathlib.Core.Path.{◌≡◌, refl, sym, ap, ◌∙◌}
use mathlib.Core.Bool.{Bool, true, false}
use mathlib.Core.List.{List, [], ◌∷◌}
use mathlib.Core.Logic.{◌⊎◌}
use native.Mathlib.Omega.{arith}
use lib.ListN.{length}
use Rattle.octets.specs.Number.{bare}
use Rattle.octets.specs.declared.Access.{Access}
use Rattle.octets.specs.declared.Port.{Port}
use Rattle.octets.specs.declared.Port.TheVariants.{Secure}
use Rattle.admission.specs.Admission.{unit_managed, lock_unfitted}
use Rattle.admission.specs.Want.{Allocate, Fit, Free, Read, Write}
use Rattle.admission.specs.Want as k
use Rattle.admission.specs.declared.Limits.{Limits}
use Rattle.admission.specs.declared.Mode.{Mode}
use Rattle.admission.specs.Denial.{Verdict, Allowed, Denied}
use Rattle.admission.proofs.Admitted
use Rattle.rows.specs.Keyed.{Maybe, nowhere, here, without}
use Rattle.store.specs.Model.{Tag, State, new_unit, holding, tag_id, total, Shared, Proper, Valid, head_of}
use Rattle.store.specs.Steps.{registered, known_of, verdict, acted, asked, more, written, write_step, free_step, allocate_step, fit_step, denied, content_by, read_step}
use Rattle.store.specs.History.{Call, allocate, fit, free, write, ask, after, if_allowed, size_by, granted, freed, after_all, all_granted, all_freed}
use Rattle.store.proofs.Told
use Rattle.store.proofs.Valid.{each-look, length_without, total-add, total-without, total-change, new-valid, after-valid}

-- ---- the octets in use

-- what is added to the sizes of all areas and what is taken from them, if it was allowed
settled : (u : State) (v : Verdict) (m : List Tag) (g f : ℕ) → (v ≡ Allowed → total m + f ≡ total u.tags + g)
    → total (acted u v m).unit.tags + if_allowed (acted u v m).answer f ≡ total u.tags + if_allowed (acted u v m).answer g
settled u Allowed m g f e = e refl
settled u (Denied d) m g f e = refl

-- one call
in-use-after : (u : State) (c : Call) → Valid u → total (after u c).tags + freed u c ≡ total u.tags + granted u c
unfolding allocate_step fit_step free_step write_step registered
in-use-after u (allocate x size mode spf p a) o =
    let new = asked x size mode spf a in
    settled u (verdict u x (Allocate new) p a) (more u new []) size 0 (λ e. omega (arith, total-add u.tags (record { about = new; held = [] })))
in-use-after u (fit x size mode spf lock xs) o =
    let new = asked x size mode spf lock in
    settled u (verdict u x (Fit new (length xs)) Secure lock) (more u new xs) size 0 (λ e. omega (arith, total-add u.tags (record { about = new; held = xs })))
in-use-after u (free x p a) o =
    settled u (verdict u x Free p a) _ 0 (size_by (registered u x)) (λ e.
    let t = Told.there u x p a Free (Admitted.stranger-free _ p a) e in
    rw t.is (omega (arith, total-without (bare x) u.tags t.tag o.apart t.is)))
in-use-after u (write x xs p a) o =
    settled u (verdict u x (Write (length xs)) p a) _ 0 0 (λ e. ap (λ (n : ℕ). n + 0) (total-change (bare x) (written xs) (λ t. refl) u.tags))
in-use-after u ask o = refl

-- the octets in use and those freed are those that were in use and those granted
pub in_use : (u : State) (cs : List Call) → Valid u → total (after_all u cs).tags + all_freed u cs ≡ total u.tags + all_granted u cs
unfolding after_all all_freed all_granted
in_use u [] o = refl
in_use u (c ∷ cs) o = omega (arith, in_use (after u c) cs (after-valid u c o), in-use-after u c o)

-- of a unit since its start: the octets in use are those granted less those freed
pub history : (l : Limits) (v : ℕ) (a p : Bool) (cs : List Call) → Shared l → v ≤ 15
    → total (after_all (new_unit l v a p) cs).tags + all_freed (new_unit l v a p) cs ≡ all_granted (new_unit l v a p) cs
unfolding total
history l v a p cs s h = omega (arith, in_use (new_unit l v a p) cs (new-valid l v a p s h))

-- ---- when room is refused

-- no room for a new area: "if 32 tags exist or the sizes of all areas plus the new one exceed 8,192"
abbrev pub Full : State → ℕ → Type 0
Full u size = (u.limits.tags ≤ length u.tags) ⊎ (u.limits.memory < total u.tags + size)

-- an allocation that nothing but room can bar
pub record Fresh (u : State) (x size : ℕ) : Type 0 where
  pub new : registered u x ≡ nowhere
  pub gate : unit_managed (bare x) ≡ false
  pub some : 1 ≤ size
  pub small : size ≤ u.limits.area

-- a fitting that nothing but room can bar
pub record FreshFit (u : State) (x size : ℕ) (lock : Access) (n : ℕ) : Type 0 where
  pub new : registered u x ≡ nowhere
  pub own : unit_managed (bare x) ≡ true
  pub option : lock_unfitted u.passwords lock ≡ false
  pub some : 1 ≤ size
  pub small : size ≤ u.limits.area
  pub fits : n ≤ size

-- a tag of which nothing is known is not registered
unknown : (o : Maybe Tag) → known_of o ≡ k.Nothing → o ≡ nowhere
unknown nowhere e = refl
unknown (here t) e = let z : ◌≡◌ {A = ℕ} 0 1 = cc in absurd (omega arith)

module _ (u : State) (x size : ℕ) (mode : Mode) (spf : Bool) (p : Port) (a : Access) where
  -- the answer is the verdict
  allocate-says : (allocate_step u x size mode spf p a).answer ≡ verdict u x (Allocate (asked x size mode spf a)) p a
  unfolding allocate_step
  allocate-says = Told.answer-is u (verdict u x (Allocate (asked x size mode spf a)) p a) _

  -- 5 is given only for want of room
  five-only : (allocate_step u x size mode spf p a).answer ≡ Denied 5 → Fresh u x size × Full u size
  five-only e =
      let f = Admitted.five-only (head_of u) p a _ (asked x size mode spf a) (sym allocate-says ∙ e) in
      (record { new = unknown _ f.fresh; gate = f.gate; some = f.some; small = f.small }, f.full)

  -- and always then
  five-there : Fresh u x size × Full u size → (allocate_step u x size mode spf p a).answer ≡ Denied 5
  five-there r =
      let f = r.0 in
      allocate-says ∙ Admitted.five-there (head_of u) p a _ (asked x size mode spf a) (record {
        fresh = ap known_of f.new;
        gate = f.gate;
        some = f.some;
        small = f.small;
        full = r.1;
      })

  -- 5 is given for want of room, always then and only then
  pub five-exactly : ((allocate_step u x size mode spf p a).answer ≡ Denied 5 → Fresh u x size × Full u size)
      × (Fresh u x size × Full u size → (allocate_step u x size mode spf p a).answer ≡ Denied 5)
  five-exactly = (five-only, five-there)

  -- where there is room it is given, whatever the unit's history
  pub room-enough : Fresh u x size → length u.tags < u.limits.tags → total u.tags + size ≤ u.limits.memory
      → (allocate_step u x size mode spf p a).answer ≡ Allowed
  room-enough f c r =
      allocate-says ∙ Admitted.allocate-allowed (head_of u) p a _ (asked x size mode spf a) (ap known_of f.new) (record {
        gate = f.gate;
        space = record { some = f.some; small = f.small; few = c; room = r };
      })

module _ (u : State) (x size : ℕ) (mode : Mode) (spf : Bool) (lock : Access) (xs : List ℕ) where
  -- the same of a fitting: the answer is the verdict
  fit-says : (fit_step u x size mode spf lock xs).answer ≡ verdict u x (Fit (asked x size mode spf lock) (length xs)) Secure lock
  unfolding fit_step
  fit-says = Told.answer-is u (verdict u x (Fit (asked x size mode spf lock) (length xs)) Secure lock) _

  -- 5 is given only for want of room
  fit-five-only : (fit_step u x size mode spf lock xs).answer ≡ Denied 5 → FreshFit u x size lock (length xs) × Full u size
  fit-five-only e =
      let f = Admitted.fit-five-only (head_of u) Secure lock _ (asked x size mode spf lock) (length xs) (sym fit-says ∙ e) in
      (record { new = unknown _ f.fresh; own = f.own; option = f.option; some = f.some; small = f.small; fits = f.held }, f.full)

  -- and always then
  fit-five-there : FreshFit u x size lock (length xs) × Full u size → (fit_step u x size mode spf lock xs).answer ≡ Denied 5
  fit-five-there r =
      let f = r.0 in
      fit-says ∙ Admitted.fit-five-there (head_of u) Secure lock _ (asked x size mode spf lock) (length xs) (record {
        fresh = ap known_of f.new;
        own = f.own;
        option = f.option;
        some = f.some;
        small = f.small;
        held = f.fits;
        full = r.1;
      })

  -- always then and only then
  pub fit-five-exactly : ((fit_step u x size mode spf lock xs).answer ≡ Denied 5 → FreshFit u x size lock (length xs) × Full u size)
      × (FreshFit u x size lock (length xs) × Full u size → (fit_step u x size mode spf lock xs).answer ≡ Denied 5)
  fit-five-exactly = (fit-five-only, fit-five-there)

  -- where there is room it is given
  pub fit-room-enough : FreshFit u x size lock (length xs) → length u.tags < u.limits.tags → total u.tags + size ≤ u.limits.memory
      → (fit_step u x size mode spf lock xs).answer ≡ Allowed
  fit-room-enough f c r =
      fit-says ∙ Admitted.fit-allowed (head_of u) Secure lock _ (asked x size mode spf lock) (length xs) (ap known_of f.new) (record {
        own = f.own;
        option = f.option;
        held = f.fits;
        space = record { some = f.some; small = f.small; few = c; room = r };
      })

-- a read that is denied is denied by its verdict
denied-by : (v : Verdict) (xs : List ℕ) (d : ℕ) → content_by v xs ≡ denied d → v ≡ Denied d
denied-by Allowed xs d e = let z : ◌≡◌ {A = ℕ} 0 1 = cc in absurd (omega arith)
denied-by (Denied c) xs d e = let z : c ≡ d = cc in ap Denied z

-- "5 is given in no other case": no write, no free and no read is denied by 5
pub five-nowhere-else : (u : State) (x : ℕ) (xs : List ℕ) (p : Port) (a : Access)
    → ((write_step u x xs p a).answer ≡ Denied 5 → ⊥) × ((free_step u x p a).answer ≡ Denied 5 → ⊥) × (read_step u x p a ≡ denied 5 → ⊥)
unfolding write_step free_step read_step
five-nowhere-else u x xs p a = (
  λ e. Admitted.five-else (head_of u) p a _ (Write (length xs)) refl (sym (Told.answer-is u (verdict u x (Write (length xs)) p a) _) ∙ e),
  λ e. Admitted.five-else (head_of u) p a _ Free refl (sym (Told.answer-is u (verdict u x Free p a) _) ∙ e),
  λ e. Admitted.five-else (head_of u) p a _ Read refl (denied-by (verdict u x Read p a) _ 5 e),
)

-- room that one tag less leaves
room-left : (u : State) (x : ℕ) (t : Tag) (y size : ℕ) (mode : Mode) (spf : Bool) (q : Port) (b : Access) (w : State) → Valid u → registered u x ≡ here t
    → w ≡ holding u (without tag_id (bare x) u.tags) → registered w y ≡ nowhere → unit_managed (bare y) ≡ false → 1 ≤ size → size ≤ t.about.size
    → (allocate_step w y size mode spf q b).answer ≡ Allowed
unfolding registered
room-left u x t y size mode spf q b w o h e n g s z =
    let l : w.limits ≡ u.limits = ap (λ (r : State). r.limits) e in
    let m : w.tags ≡ without tag_id (bare x) u.tags = ap (λ (r : State). r.tags) e in
    let k : t.about.size ≤ u.limits.area = (each-look (Proper u.limits) (bare x) u.tags t h o.proper).small in
    room-enough w y size mode spf q b
    (record { new = n; gate = g; some = s; small = rw l (omega arith) })
    (rw (l, m) (omega (arith, o.few, length_without (bare x) u.tags t o.apart h)))
    (rw (l, m) (omega (arith, o.room, total-without (bare x) u.tags t o.apart h)))

-- freed room is given again: to any tag that may be allocated, up to the size that was freed
pub freed-again : (u : State) (x : ℕ) (p : Port) (a : Access) (t : Tag) (y size : ℕ) (mode : Mode) (spf : Bool) (q : Port) (b : Access) → Valid u
    → registered u x ≡ here t → (free_step u x p a).answer ≡ Allowed → registered (free_step u x p a).unit y ≡ nowhere → unit_managed (bare y) ≡ false
    → 1 ≤ size → size ≤ t.about.size → (allocate_step (free_step u x p a).unit y size mode spf q b).answer ≡ Allowed
unfolding free_step
freed-again u x p a t y size mode spf q b o h e n g s z =
    room-left u x t y size mode spf q b _ o h (Told.done u (verdict u x Free p a) _ e) n g s z
