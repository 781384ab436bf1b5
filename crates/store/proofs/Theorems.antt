-- What a unit's user may rely on: tags are distinct and their areas apart, a step touches no other tag, a refusal changes nothing, what was written is read
-- back, and six bits of a tag do not matter. Document 01, 'Tags'. All of it is said of the steps; every entry does what its step does.
use Prim.Native.Nat.{ℕ, zero, suc, ◌+◌, ◌<◌, ◌≤◌}
use mathlib.Core.Path.{◌≡◌, refl, sym, ap, ◌∙◌}
use mathlib.Core.Bool.{Bool, true, false, cond}
use mathlib.Core.List.{List, [], ◌∷◌}
use native.Mathlib.Omega.{arith}
use native.Mathlib.Decide.{dec_lt}
use lib.ListN.{length, get_or, take}
use lib.Dec.{eqb}
use Rattle.octets.specs.Number.{bare}
use Rattle.octets.specs.declared.Access.{Access}
use Rattle.octets.specs.declared.Port.{Port}
use Rattle.octets.specs.declared.Port.TheVariants.{Secure}
use Rattle.admission.specs.Want.{Allocate, Fit, Free, Read, Write}
use Rattle.admission.specs.Want as k
use Rattle.admission.specs.declared.Attributes.{Attributes}
use Rattle.admission.specs.declared.Mode.{Mode}
use Rattle.admission.specs.Denial.{Verdict, Allowed, Denied}
use Rattle.admission.proofs.Admitted
use Rattle.rows.specs.Keyed.{nowhere, here, look, change, Apart}
use Rattle.rows.specs.Row.{empty}
use Rattle.rows.proofs.Keys
use Rattle.store.specs.History.{Call, allocate, fit, free, write, ask, named, step, after}
use Rattle.store.specs.Model.{Tag, State, tag_id, total, head_of, slot_of, arranged, Valid}
use Rattle.store.specs.Steps.{registered, known_of, held_by, verdict, acted, written, asked, more, content, write_step, free_step, allocate_step, fit_step, read_step, remainder}
use Rattle.store.proofs.Located
use Rattle.store.proofs.Told
use Rattle.store.proofs.Valid.{none, total-split}

-- ---- tags and areas

-- no later place has the tag of a place
distinct : (m : List Tag) (i j : ℕ) → Apart tag_id m → i < j → j < length m → tag_id (get_or m i none) ≡ tag_id (get_or m j none) → ⊥
unfolding Apart
distinct [] i j a h l e = omega arith
distinct (t ∷ m) i zero a h l e = omega arith
distinct (t ∷ m) zero (suc j) a h l e = Keys.none-at tag_id none (tag_id t) m a.0 j (omega arith) (sym e)
distinct (t ∷ m) (suc i) (suc j) a h l e = distinct m i j a.1 (omega arith) (omega arith) e

-- two places have different tags
pub tags-distinct : (u : State) (i j : ℕ) → Valid u → i < length u.tags → j < length u.tags → (i ≡ j → ⊥)
    → tag_id (get_or u.tags i none) ≡ tag_id (get_or u.tags j none) → ⊥
tags-distinct u i j o h l n e = go (dec_lt i j) (dec_lt j i)
  where
    go : Dec (i < j) → Dec (j < i) → ⊥
    go (yes k) d = distinct u.tags i j o.apart k l e
    go (no k) (yes g) = distinct u.tags j i o.apart g h (sym e)
    go (no k) (no g) = n (omega arith)

-- what stands before a place and at it stands before every later place
total-before : (m : List Tag) (i j : ℕ) → i < j → j ≤ length m → total (take i m) + (get_or m i none).about.size ≤ total (take j m)
unfolding total
total-before [] i j h l = absurd (omega arith)
total-before (t ∷ m) i zero h l = absurd (omega arith)
total-before (t ∷ m) zero (suc j) h l = omega arith
total-before (t ∷ m) (suc i) (suc j) h l = omega (arith, total-before m i j (omega arith) (omega arith))

-- the slot of a place: its area starts behind those before it
slot_at : (m : List Tag) (i : ℕ) → i < length m → get_or (arranged m) i empty ≡ slot_of (total (take i m)) (get_or m i none)
unfolding arranged
slot_at m i h = Located.located-at 0 m i h ∙ ap (λ (a : ℕ). slot_of a (get_or m i none)) (omega arith)

-- an area lies within the memory
pub areas-within : (u : State) (i : ℕ) → Valid u → i < length u.tags
    → (get_or (arranged u.tags) i empty).at + (get_or (arranged u.tags) i empty).about.size ≤ u.limits.memory
areas-within u i o h = rw (slot_at u.tags i h) (omega (arith, o.room, total-split u.tags i h))

-- and ends before the areas of all later places start
pub areas-apart : (u : State) (i j : ℕ) → i < j → j < length u.tags
    → (get_or (arranged u.tags) i empty).at + (get_or (arranged u.tags) i empty).about.size ≤ (get_or (arranged u.tags) j empty).at
areas-apart u i j h l = rw (slot_at u.tags i (omega arith), slot_at u.tags j l) (total-before u.tags i j h (omega arith))

-- ---- every other tag keeps its attributes and its data, in acceptance and in refusal

-- a tag that is found as before among the tags of a step is registered as before
others : (u : State) (v : Verdict) (m : List Tag) (y : ℕ) → look tag_id (bare y) m ≡ look tag_id (bare y) u.tags
    → registered (acted u v m).unit y ≡ registered u y
unfolding registered
others u v m y e = Told.left (λ s. look tag_id (bare y) s.tags ≡ look tag_id (bare y) u.tags) u v m refl (λ r. e)

-- so it is among one tag more
more-others : (u : State) (x y : ℕ) (new : Attributes) (xs : List ℕ) → new.tag ≡ bare x → (bare y ≡ bare x → ⊥)
    → look tag_id (bare y) (more u new xs) ≡ look tag_id (bare y) u.tags
more-others u x y new xs e n = Keys.look-add-other tag_id (bare y) (record { about = new; held = xs }) u.tags (λ q. n (sym q ∙ e))

-- whatever the call, a tag that it does not name
pub keeps-others : (u : State) (c : Call) (y : ℕ) → ((x : ℕ) → named c ≡ here x → bare y ≡ bare x → ⊥) → registered (after u c) y ≡ registered u y
unfolding allocate_step fit_step free_step write_step
keeps-others u (allocate x size mode spf p a) y n =
    let new = asked x size mode spf a in
    others u (verdict u x (Allocate new) p a) _ y (more-others u x y new [] refl (n x refl))
keeps-others u (fit x size mode spf lock xs) y n =
    let new = asked x size mode spf lock in
    others u (verdict u x (Fit new (length xs)) Secure lock) _ y (more-others u x y new xs refl (n x refl))
keeps-others u (free x p a) y n =
    others u (verdict u x Free p a) _ y (Keys.look-without-other tag_id (bare y) (bare x) (n x refl) u.tags)
keeps-others u (write x xs p a) y n =
    others u (verdict u x (Write (length xs)) p a) _ y (Keys.look-change-other tag_id (bare y) (bare x) (written xs) (λ r. refl) (n x refl) u.tags)
keeps-others u ask y n = refl

-- ---- a write keeps what is fixed of every tag, of the written one too, and no tag comes or goes

-- the same among the tags alone
known-change : (x y : ℕ) (xs : List ℕ) (m : List Tag) → known_of (look tag_id y (change tag_id x (written xs) m)) ≡ known_of (look tag_id y m)
unfolding look change
known-change x y xs [] = refl
known-change x y xs (t ∷ m) = changed (eqb (tag_id t) x) (known-change x y xs m)
  where
    chosen : (c : Bool) (s : Tag) → s.about ≡ t.about → known_of (look tag_id y (change tag_id x (written xs) m)) ≡ known_of (look tag_id y m)
        → known_of (cond c (here s) (look tag_id y (change tag_id x (written xs) m))) ≡ known_of (cond c (here t) (look tag_id y m))
    chosen true s q r = ap (λ (b : Attributes). k.Tag b) q
    chosen false s q r = r

    changed : (b : Bool) → known_of (look tag_id y (change tag_id x (written xs) m)) ≡ known_of (look tag_id y m)
        → known_of (look tag_id y (cond b (written xs t) t ∷ change tag_id x (written xs) m)) ≡ known_of (look tag_id y (t ∷ m))
    changed true r = chosen (eqb (tag_id t) y) (written xs t) refl r
    changed false r = chosen (eqb (tag_id t) y) t refl r

-- of the tag y, which may be the written one: its size, mode, SPF and password, or that it is not registered
pub write-keeps-attributes : (u : State) (x y : ℕ) (xs : List ℕ) (p : Port) (a : Access)
    → known_of (registered (write_step u x xs p a).unit y) ≡ known_of (registered u y)
unfolding write_step registered
write-keeps-attributes u x y xs p a =
    Told.left (λ s. known_of (look tag_id (bare y) s.tags) ≡ known_of (look tag_id (bare y) u.tags)) u (verdict u x (Write (length xs)) p a) _ refl (λ e.
    known-change (bare x) (bare y) xs u.tags)

-- ---- a refusal leaves all as it was

-- whatever the call and the number that refuses it
pub refused-keeps : (u : State) (c : Call) (d : ℕ) → (step u c).answer ≡ Denied d → after u c ≡ u
unfolding allocate_step fit_step free_step write_step
refused-keeps u (allocate x size mode spf p a) d e = Told.kept u (verdict u x (Allocate (asked x size mode spf a)) p a) _ d e
refused-keeps u (fit x size mode spf lock xs) d e = Told.kept u (verdict u x (Fit (asked x size mode spf lock) (length xs)) Secure lock) _ d e
refused-keeps u (free x p a) d e = Told.kept u (verdict u x Free p a) _ d e
refused-keeps u (write x xs p a) d e = Told.kept u (verdict u x (Write (length xs)) p a) _ d e
refused-keeps u ask d e = refl

-- ---- what is registered and held afterwards

-- a read that is allowed gives what is held
read-gives : (u : State) (x : ℕ) (p : Port) (a : Access) (xs : List ℕ) → held_by (registered u x) ≡ xs → verdict u x Read p a ≡ Allowed
    → read_step u x p a ≡ content xs
unfolding read_step
read-gives u x p a xs h e = rw (e, h)

-- what a write wrote is held
pub write-holds : (u : State) (x : ℕ) (xs : List ℕ) (p : Port) (a : Access) → (write_step u x xs p a).answer ≡ Allowed
    → held_by (registered (write_step u x xs p a).unit x) ≡ xs
unfolding write_step registered
write-holds u x xs p a e =
    let v = verdict u x (Write (length xs)) p a in
    let t = Told.there u x p a (Write (length xs)) (Admitted.stranger-write _ p a _) (sym (Told.answer-is u v _) ∙ e) in
    rw (Told.done u v _ e, Keys.look-change tag_id (bare x) (written xs) (λ r. refl) u.tags t.tag t.is)

-- and every read that is allowed gives it
pub read-after-write : (u : State) (x : ℕ) (xs : List ℕ) (p : Port) (a : Access) (q : Port) (b : Access) → (write_step u x xs p a).answer ≡ Allowed
    → verdict (write_step u x xs p a).unit x Read q b ≡ Allowed → read_step (write_step u x xs p a).unit x q b ≡ content xs
read-after-write u x xs p a q b e f = read-gives (write_step u x xs p a).unit x q b xs (write-holds u x xs p a e) f

-- one tag more is found as it was asked for
more-found : (u : State) (x : ℕ) (v : Verdict) (new : Attributes) (xs : List ℕ) → new.tag ≡ bare x → (acted u v (more u new xs)).answer ≡ Allowed
    → registered u x ≡ nowhere → registered (acted u v (more u new xs)).unit x ≡ here (record { about = new; held = xs })
unfolding registered
more-found u x v new xs q e n =
    ap (λ (s : State). look tag_id (bare x) s.tags) (Told.done u v (more u new xs) e)
    ∙ Keys.look-add tag_id (bare x) (record { about = new; held = xs }) u.tags q n

-- an allocated tag is registered with what was asked for, and holds nothing
pub allocate-registers : (u : State) (x size : ℕ) (mode : Mode) (spf : Bool) (p : Port) (a : Access) → (allocate_step u x size mode spf p a).answer ≡ Allowed
    → registered (allocate_step u x size mode spf p a).unit x ≡ here (record { about = asked x size mode spf a; held = [] })
unfolding allocate_step
allocate-registers u x size mode spf p a e =
    let new = asked x size mode spf a in
    let v = verdict u x (Allocate new) p a in
    more-found u x v new [] refl e (Told.allocate-room u x p a new (sym (Told.answer-is u v _) ∙ e)).new

-- so it holds nothing
pub allocate_holds : (u : State) (x size : ℕ) (mode : Mode) (spf : Bool) (p : Port) (a : Access) → (allocate_step u x size mode spf p a).answer ≡ Allowed
    → held_by (registered (allocate_step u x size mode spf p a).unit x) ≡ []
allocate_holds u x size mode spf p a e = ap held_by (allocate-registers u x size mode spf p a e)

-- and every read that is allowed gives no octet
pub read-after-allocate : (u : State) (x size : ℕ) (mode : Mode) (spf : Bool) (p : Port) (a : Access) (q : Port) (b : Access)
    → (allocate_step u x size mode spf p a).answer ≡ Allowed → verdict (allocate_step u x size mode spf p a).unit x Read q b ≡ Allowed
    → read_step (allocate_step u x size mode spf p a).unit x q b ≡ content []
read-after-allocate u x size mode spf p a q b e f =
    read-gives (allocate_step u x size mode spf p a).unit x q b [] (allocate_holds u x size mode spf p a e) f

-- a fitted tag is registered with what was asked for, and holds its first data
pub fit-registers : (u : State) (x size : ℕ) (mode : Mode) (spf : Bool) (lock : Access) (xs : List ℕ) → (fit_step u x size mode spf lock xs).answer ≡ Allowed
    → registered (fit_step u x size mode spf lock xs).unit x ≡ here (record { about = asked x size mode spf lock; held = xs })
unfolding fit_step
fit-registers u x size mode spf lock xs e =
    let new = asked x size mode spf lock in
    let v = verdict u x (Fit new (length xs)) Secure lock in
    more-found u x v new xs refl e (Told.fit-room u x Secure lock new (length xs) (sym (Told.answer-is u v _) ∙ e)).0.new

-- so it holds the data
pub fit-holds : (u : State) (x size : ℕ) (mode : Mode) (spf : Bool) (lock : Access) (xs : List ℕ) → (fit_step u x size mode spf lock xs).answer ≡ Allowed
    → held_by (registered (fit_step u x size mode spf lock xs).unit x) ≡ xs
fit-holds u x size mode spf lock xs e = ap held_by (fit-registers u x size mode spf lock xs e)

-- and every read that is allowed gives it
pub read-after-fit : (u : State) (x size : ℕ) (mode : Mode) (spf : Bool) (lock : Access) (xs : List ℕ) (q : Port) (b : Access)
    → (fit_step u x size mode spf lock xs).answer ≡ Allowed → verdict (fit_step u x size mode spf lock xs).unit x Read q b ≡ Allowed
    → read_step (fit_step u x size mode spf lock xs).unit x q b ≡ content xs
read-after-fit u x size mode spf lock xs q b e f =
    read-gives (fit_step u x size mode spf lock xs).unit x q b xs (fit-holds u x size mode spf lock xs e) f

-- a freed tag is not registered
pub free-gone : (u : State) (x : ℕ) (p : Port) (a : Access) → (free_step u x p a).answer ≡ Allowed → registered (free_step u x p a).unit x ≡ nowhere
unfolding free_step registered
free-gone u x p a e =
    ap (λ (s : State). look tag_id (bare x) s.tags) (Told.done u (verdict u x Free p a) _ e) ∙ Keys.look-without tag_id (bare x) u.tags

-- ---- what remains

-- the octets that remain and those of all areas are the kind's
pub remainder-octets : (u : State) → Valid u → u.allocation ≡ true → (remainder (head_of u)).octets + total u.tags ≡ u.limits.memory
remainder-octets u o e = rw e (omega (arith, o.room))

-- the tags that remain and those registered are the kind's
pub remainder-tags : (u : State) → Valid u → u.allocation ≡ true → (remainder (head_of u)).tags + length u.tags ≡ u.limits.tags
remainder-tags u o e = rw e (omega (arith, o.few))

-- "or 0 and 0 if allocation is not fitted"
pub remainder-none : (u : State) → u.allocation ≡ false → ((remainder (head_of u)).tags ≡ 0) × ((remainder (head_of u)).octets ≡ 0)
remainder-none u e = (rw e, rw e)

-- ---- the six bits do not matter

-- a write
pub bare-same-write : (u : State) (x y : ℕ) (xs : List ℕ) (p : Port) (a : Access) → bare x ≡ bare y → write_step u x xs p a ≡ write_step u y xs p a
unfolding write_step registered
bare-same-write u x y xs p a e = rw e

-- a free
pub bare-same-free : (u : State) (x y : ℕ) (p : Port) (a : Access) → bare x ≡ bare y → free_step u x p a ≡ free_step u y p a
unfolding free_step registered
bare-same-free u x y p a e = rw e

-- an allocation
pub bare-same-allocate : (u : State) (x y size : ℕ) (mode : Mode) (spf : Bool) (p : Port) (a : Access) → bare x ≡ bare y
    → allocate_step u x size mode spf p a ≡ allocate_step u y size mode spf p a
unfolding allocate_step registered
bare-same-allocate u x y size mode spf p a e = rw e

-- a fitting
pub bare-same-fit : (u : State) (x y size : ℕ) (mode : Mode) (spf : Bool) (lock : Access) (xs : List ℕ) → bare x ≡ bare y
    → fit_step u x size mode spf lock xs ≡ fit_step u y size mode spf lock xs
unfolding fit_step registered
bare-same-fit u x y size mode spf lock xs e = rw e

-- a read
pub bare-same-read : (u : State) (x y : ℕ) (p : Port) (a : Access) → bare x ≡ bare y → read_step u x p a ≡ read_step u y p a
unfolding read_step registered
bare-same-read u x y p a e = rw e
