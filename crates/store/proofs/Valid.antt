-- A unit that is in order stays in order, whatever it is asked. First the laws of what holds of each tag and of the sizes of all areas together, then the
-- tags that a step leaves, then the steps. What a verdict tells comes from the laws of admission.
use Prim.Native.Nat.{ℕ, zero, suc, ◌+◌, ◌<◌, ◌≤◌}
use mathlib.Core.Path.{◌≡◌, refl, sym, ap, ◌∙◌}
use mathlib.Core.Bool.{Bool, true, false, cond}
use mathlib.Core.List.{List, [], ◌∷◌, ◌++◌}
use native.Mathlib.Omega.{arith}
use native.Mathlib.Decide.{ℕ_discrete}
use lib.ListN.{length, get_or, take, drop, length-append}
use lib.Dec.{eqb}
use borrow.Author.Tests.{eq-eqb, ne_eqb}
use Rattle.octets.specs.Number.{bare}
use Rattle.octets.specs.declared.Access.{Access}
use Rattle.octets.specs.declared.Port.{Port}
use Rattle.octets.specs.declared.Port.TheVariants.{Secure}
use Rattle.admission.specs.Want.{Allocate, Fit, Free, Write}
use Rattle.admission.specs.declared.Limits.{Limits}
use Rattle.admission.specs.declared.Mode.{Mode}
use Rattle.admission.proofs.Admitted
use Rattle.rows.specs.Keyed.{nowhere, here, look, change, unless, without, Apart}
use Rattle.rows.specs.Row.{empty}
use Rattle.rows.proofs.Keys
use Rattle.rows.proofs.Places.{remove}
use Rattle.store.specs.Model.{Tag, State, new_unit, holding, tag_id, total, Shared, Proper, Each, Valid}
use Rattle.store.specs.Steps.{registered, verdict, written, asked, more, write_step, free_step, allocate_step, fit_step}
use Rattle.store.specs.History.{Call, allocate, fit, free, write, ask, after, after_all}
use Rattle.store.proofs.Told.{Room}
use Rattle.store.proofs.Told

-- the tag that stands at no place
abbrev pub none : Tag
none = record { about = empty.about; held = [] }

-- ---- what holds of each tag

module _ (P : Tag → Type 0) where
  -- it holds of the tag at each place
  pub each_at : (m : List Tag) (i : ℕ) → i < length m → Each P m → P (get_or m i none)
  unfolding Each
  each_at [] i h e = absurd (omega arith)
  each_at (t ∷ m) zero h e = e.0
  each_at (t ∷ m) (suc i) h e = each_at m i (omega arith) e.1

  -- and of a tag that is found
  pub each-look : (x : ℕ) (m : List Tag) (t : Tag) → look tag_id x m ≡ here t → Each P m → P t
  each-look x m t h e =
      let s = Keys.stands tag_id none x m t h in
      rw s.is at (each_at m s.place s.low e)

  -- of the tags that remain
  pub each-without : (x : ℕ) (m : List Tag) → Each P m → Each P (without tag_id x m)
  unfolding Each without
  each-without x [] e = e
  each-without x (t ∷ m) e = go (eqb (tag_id t) x) (each-without x m e.1)
    where
      go : (b : Bool) → Each P (without tag_id x m) → Each P (unless b t (without tag_id x m))
      go true r = r
      go false r = (e.0, r)

  -- with one tag more of which it holds
  pub each-add : (m : List Tag) (t : Tag) → Each P m → P t → Each P (m ++ t ∷ [])
  unfolding Each
  each-add [] t e h = (h, e)
  each-add (s ∷ m) t e h = (e.0, each-add m t e.1 h)

  -- of the first tags
  pub each_take : (i : ℕ) (m : List Tag) → Each P m → Each P (take i m)
  unfolding Each
  each_take zero m e = refl
  each_take (suc i) [] e = e
  each_take (suc i) (t ∷ m) e = (e.0, each_take i m e.1)

  -- with the tag x changed, if it holds of what it becomes
  pub each-change : (x : ℕ) (g : Tag → Tag) (m : List Tag) → Apart tag_id m → ((t : Tag) → look tag_id x m ≡ here t → P t → P (g t)) → Each P m
      → Each P (change tag_id x g m)
  unfolding Each Apart change
  each-change x g [] a k e = e
  each-change x g (t ∷ m) a k e = go (ℕ_discrete (tag_id t) x) (each-change x g m a.1)
    where
      go : Dec (tag_id t ≡ x) → (((s : Tag) → look tag_id x m ≡ here s → P s → P (g s)) → Each P m → Each P (change tag_id x g m))
          → Each P (change tag_id x g (t ∷ m))
      go (yes q) r =
          let n : look tag_id x m ≡ nowhere = rw (← q) a.0 in
          rw (eq-eqb (tag_id t) x q, Keys.change-none tag_id x g m n) (k t (Keys.look-yes tag_id x t m q) e.0, e.1)
      go (no q) r = rw (ne_eqb (tag_id t) x q) (e.0, r (λ s h. k s (Keys.look-no tag_id x t m q ∙ h)) e.1)

-- ---- how many tags

-- a change leaves as many
pub length-change : (x : ℕ) (g : Tag → Tag) (m : List Tag) → length (change tag_id x g m) ≡ length m
unfolding change
length-change x g [] = refl
length-change x g (t ∷ m) = ap suc (length-change x g m)

-- at most as many remain
pub length-without-le : (x : ℕ) (m : List Tag) → length (without tag_id x m) ≤ length m
unfolding without
length-without-le x [] = omega arith
length-without-le x (t ∷ m) = go (eqb (tag_id t) x) (length-without-le x m)
  where
    go : (b : Bool) → length (without tag_id x m) ≤ length m → length (unless b t (without tag_id x m)) ≤ suc (length m)
    go true r = omega arith
    go false r = omega arith

-- one tag less, if it was there
pub length_without : (x : ℕ) (m : List Tag) (t : Tag) → Apart tag_id m → look tag_id x m ≡ here t → suc (length (without tag_id x m)) ≡ length m
unfolding Apart look
length_without x [] t a h = absurd (Keys.not-here tag_id (here t) t refl (sym h))
length_without x (s ∷ m) t a h = go (ℕ_discrete (tag_id s) x) (length_without x m t a.1)
  where
    go : Dec (tag_id s ≡ x) → (look tag_id x m ≡ here t → suc (length (without tag_id x m)) ≡ length m)
        → suc (length (without tag_id x (s ∷ m))) ≡ suc (length m)
    go (yes q) r =
        let n : look tag_id x m ≡ nowhere = rw (← q) a.0 in
        rw (Keys.without-yes tag_id x s m q, Keys.without-none tag_id x m n)
    go (no q) r = rw (Keys.without-no tag_id x s m q) (ap suc (r (sym (Keys.look-no tag_id x s m q) ∙ h)))

-- ---- the sizes of all areas together

-- of two lists of tags
pub total-append : (a b : List Tag) → total (a ++ b) ≡ total a + total b
unfolding total
total-append [] b = omega arith
total-append (t ∷ a) b = omega (arith, total-append a b)

-- of one tag
pub total-one : (t : Tag) → total (t ∷ []) ≡ t.about.size
unfolding total
total-one t = omega arith

-- one tag more
pub total-add : (m : List Tag) (t : Tag) → total (m ++ t ∷ []) ≡ total m + t.about.size
total-add m t = rw (total-append m (t ∷ []), total-one t)

-- those before a place, the one at the place and those behind it
pub total-split : (m : List Tag) (i : ℕ) → i < length m → total m ≡ total (take i m) + ((get_or m i none).about.size + total (drop (suc i) m))
unfolding total
total-split [] i h = absurd (omega arith)
total-split (t ∷ m) zero h = omega arith
total-split (t ∷ m) (suc i) h = omega (arith, total-split m i (omega arith))

-- the one at a place goes
pub total-remove : (m : List Tag) (i : ℕ) → i < length m → total (remove m i) + (get_or m i none).about.size ≡ total m
unfolding remove
total-remove m i h = omega (arith, total-append (take i m) (drop (suc i) m), total-split m i h)

-- the tag x goes
pub total-without : (x : ℕ) (m : List Tag) (t : Tag) → Apart tag_id m → look tag_id x m ≡ here t → total (without tag_id x m) + t.about.size ≡ total m
total-without x m t a h =
    let s = Keys.stands tag_id none x m t h in
    let e : tag_id (get_or m s.place none) ≡ x = ap tag_id s.is ∙ s.has in
    let w : total (remove m s.place) ≡ total (without tag_id x m) = ap total (Keys.remove-without tag_id none x m s.place s.low a e) in
    let z : (get_or m s.place none).about.size ≡ t.about.size = ap (λ (r : Tag). r.about.size) s.is in
    omega (arith, w, z, total-remove m s.place s.low)

-- no more than before
pub total-without-le : (x : ℕ) (m : List Tag) → total (without tag_id x m) ≤ total m
unfolding total without
total-without-le x [] = omega arith
total-without-le x (t ∷ m) = go (eqb (tag_id t) x) (total-without-le x m)
  where
    go : (b : Bool) → total (without tag_id x m) ≤ total m → total (unless b t (without tag_id x m)) ≤ t.about.size + total m
    go true r = omega arith
    go false r = omega arith

-- a change that keeps sizes keeps their sum
pub total-change : (x : ℕ) (g : Tag → Tag) → ((t : Tag) → (g t).about.size ≡ t.about.size) → (m : List Tag) → total (change tag_id x g m) ≡ total m
unfolding total change
total-change x g k [] = refl
total-change x g k (t ∷ m) = go (eqb (tag_id t) x) (total-change x g k m)
  where
    go : (b : Bool) → total (change tag_id x g m) ≡ total m → total (cond b (g t) t ∷ change tag_id x g m) ≡ t.about.size + total m
    go true r = omega (arith, k t)
    go false r = omega arith

-- ---- the tags that a step leaves

-- the bits that are ignored are ignored once
pub bare-bare : (x : ℕ) → bare (bare x) ≡ bare x
unfolding bare
bare-bare x = omega arith

-- a start's unit
pub new-valid : (l : Limits) (v : ℕ) (a p : Bool) → Shared l → v ≤ 15 → Valid (new_unit l v a p)
unfolding total Each Apart
new-valid l v a p s h = record { shared = s; low = h; few = omega arith; room = omega arith; proper = refl; apart = refl }

module _ (u : State) (o : Valid u) where
  -- other data in a tag's area
  pub change-valid : (x : ℕ) (xs : List ℕ) (t : Tag) → look tag_id x u.tags ≡ here t → length xs ≤ t.about.size
      → Valid (holding u (change tag_id x (written xs) u.tags))
  change-valid x xs t h s = record {
    shared = o.shared;
    low = o.low;
    few = rw (length-change x (written xs) u.tags) o.few;
    room = rw (total-change x (written xs) (λ r. refl) u.tags) o.room;
    proper = each-change (Proper u.limits) x (written xs) u.tags o.apart keeps o.proper;
    apart = Keys.apart-change tag_id x (written xs) (λ r. refl) u.tags o.apart;
  }
    where
      keeps : (r : Tag) → look tag_id x u.tags ≡ here r → Proper u.limits r → Proper u.limits (written xs r)
      keeps r q p =
          let e : t ≡ r = cc in
          record { bits = p.bits; some = p.some; small = p.small; fits = rw e at s }

  -- a tag less
  pub without-valid : (x : ℕ) → Valid (holding u (without tag_id x u.tags))
  without-valid x = record {
    shared = o.shared;
    low = o.low;
    few = omega (arith, o.few, length-without-le x u.tags);
    room = omega (arith, o.room, total-without-le x u.tags);
    proper = each-without (Proper u.limits) x u.tags o.proper;
    apart = Keys.apart-without tag_id x u.tags o.apart;
  }

  -- a tag more
  pub more-valid : (t : Tag) → Proper u.limits t → look tag_id (tag_id t) u.tags ≡ nowhere → length u.tags < u.limits.tags
      → total u.tags + t.about.size ≤ u.limits.memory → Valid (holding u (u.tags ++ t ∷ []))
  more-valid t p n c r = record {
    shared = o.shared;
    low = o.low;
    few = omega (arith, length-append u.tags (t ∷ []));
    room = omega (arith, total-add u.tags t);
    proper = each-add (Proper u.limits) u.tags t o.proper p;
    apart = Keys.apart-add tag_id t u.tags o.apart n;
  }

-- ---- the steps

-- where there is room, a tag as asked for
pub room-valid : (u : State) (x size : ℕ) (mode : Mode) (spf : Bool) (lock : Access) (xs : List ℕ) → Room u x size → length xs ≤ size → Valid u
    → Valid (holding u (more u (asked x size mode spf lock) xs))
unfolding registered
room-valid u x size mode spf lock xs r h o =
    more-valid u o
    (record { about = asked x size mode spf lock; held = xs })
    (record { bits = bare-bare x; some = r.space.some; small = r.space.small; fits = h })
    r.new
    r.space.few
    r.space.room

-- a write
pub write-valid : (u : State) (x : ℕ) (xs : List ℕ) (p : Port) (a : Access) → Valid u → Valid (write_step u x xs p a).unit
unfolding write_step registered
write-valid u x xs p a o =
    Told.left Valid u (verdict u x (Write (length xs)) p a) _ o (λ e.
    let t = Told.there u x p a (Write (length xs)) (Admitted.stranger-write _ p a _) e in
    change-valid u o (bare x) xs t.tag t.is (Told.write-fits u x p a (length xs) t.tag t.is e))

-- a free
pub free-valid : (u : State) (x : ℕ) (p : Port) (a : Access) → Valid u → Valid (free_step u x p a).unit
unfolding free_step
free-valid u x p a o = Told.left Valid u (verdict u x Free p a) _ o (λ e. without-valid u o (bare x))

-- an allocation
pub allocate-valid : (u : State) (x size : ℕ) (mode : Mode) (spf : Bool) (p : Port) (a : Access) → Valid u → Valid (allocate_step u x size mode spf p a).unit
unfolding allocate_step
allocate-valid u x size mode spf p a o =
    Told.left Valid u (verdict u x (Allocate (asked x size mode spf a)) p a) _ o (λ e.
    room-valid u x size mode spf a [] (Told.allocate-room u x p a (asked x size mode spf a) e) (omega arith) o)

-- a fitting
pub fit-valid : (u : State) (x size : ℕ) (mode : Mode) (spf : Bool) (lock : Access) (xs : List ℕ) → Valid u → Valid (fit_step u x size mode spf lock xs).unit
unfolding fit_step
fit-valid u x size mode spf lock xs o =
    Told.left Valid u (verdict u x (Fit (asked x size mode spf lock) (length xs)) Secure lock) _ o (λ e.
    let r = Told.fit-room u x Secure lock (asked x size mode spf lock) (length xs) e in
    room-valid u x size mode spf lock xs r.0 r.1 o)

-- any call
pub after-valid : (u : State) (c : Call) → Valid u → Valid (after u c)
after-valid u (allocate x size mode spf p a) o = allocate-valid u x size mode spf p a o
after-valid u (fit x size mode spf lock xs) o = fit-valid u x size mode spf lock xs o
after-valid u (free x p a) o = free-valid u x p a o
after-valid u (write x xs p a) o = write-valid u x xs p a o
after-valid u ask o = o

-- any calls, one after another
pub reached-valid : (u : State) (cs : List Call) → Valid u → Valid (after_all u cs)
unfolding after_all
reached-valid u [] o = o
reached-valid u (c ∷ cs) o = reached-valid (after u c) cs (after-valid u c o)
