-- What a verdict of `admission` tells of the operation, and where a verdict is given. The crates above use these laws and do not open the definition.
use Prim.Native.Nat.{ℕ, ◌+◌, ◌≤◌, ◌<◌}
use mathlib.Core.Bool.{Bool, true, false, not, cond}
use mathlib.Core.Logic.{◌⊎◌, inl, inr}
use mathlib.Core.Path.{◌≡◌, refl, sym, ap, ◌∙◌}
use lib.Dec.{eqb, leb, ltb}
use borrow.Author.Tests.{ltb-true, ltb-false, leb-true, leb-false, lt-ltb, le-ltb, le-leb, lt-leb, not-false}
use Rattle.octets.specs.declared.Access.{Access}
use Rattle.octets.specs.declared.Port.{Port}
use Rattle.octets.specs.declared.Port.TheVariants.{Normal, Secure}
use Rattle.octets.proofs.Places.{false-true}
use Rattle.admission.specs.Admission.{unit_managed, tag_bars, lock_unfitted, option_bars, port_bars, lock_bars, password_bars, use_bars, mode_bars, bad_size, size_bars, no_room, room_bars, admission}
use Rattle.admission.specs.Want.{Known, is_tag, Tag, Nothing, Want, Allocate, Fit, Free, Read, Write}
use Rattle.admission.specs.declared.Attributes.{Attributes}
use Rattle.admission.specs.declared.Head.{Head}
use Rattle.admission.specs.declared.Mode.{Mode}
use Rattle.admission.specs.declared.Mode.TheVariants.{Both, ReadOnly, WriteOnly}
use Rattle.admission.specs.Denial.{Verdict, Allowed, Denied}

-- ---- the chain of tests: what holds where it came to its last one

-- the two verdicts of the last test
abbrev last : Verdict → Bool
last Allowed = true
last (Denied d) = eqb d 5

-- a test with another number than the verdict's was passed
passed : (b : Bool) (d : ℕ) (x v : Verdict) → eqb d 5 ≡ false → last v ≡ true → cond b (Denied d) x ≡ v → (b ≡ false) × (x ≡ v)
passed true d x v n l e = absurd (false-true (sym n ∙ ap last e ∙ l))
passed false d x v n l e = (refl, e)

-- the last test decides
abbrev pub is_denied : Verdict → Bool
is_denied Allowed = false
is_denied (Denied d) = true

decided : (b : Bool) (v : Verdict) → cond b (Denied 5) Allowed ≡ v → b ≡ is_denied v
decided true v e = ap is_denied e
decided false v e = ap is_denied e

-- what a verdict of the last test tells of all seven
record Passed (h : Head) (k : Known) (w : Want) (p : Port) (a : Access) (v : Verdict) : Type 0 where
  tag : tag_bars k w ≡ false
  option : option_bars h.passwords w ≡ false
  port : port_bars k p ≡ false
  password : password_bars k a ≡ false
  mode : mode_bars k w ≡ false
  size : size_bars h.limits.area k w ≡ false
  room : room_bars h w ≡ is_denied v

-- and it tells it: the one place that takes the chain apart
passed-all : (h : Head) (k : Known) (w : Want) (p : Port) (a : Access) (v : Verdict) → last v ≡ true → admission h k w p a ≡ v → Passed h k w p a v
unfolding admission
passed-all h k w p a v l e =
    let t = passed (tag_bars k w) 6 _ v refl l e in
    let o = passed (option_bars h.passwords w) 12 _ v refl l t.1 in
    let q = passed (port_bars k p) 11 _ v refl l o.1 in
    let c = passed (password_bars k a) 10 _ v refl l q.1 in
    let m = passed (mode_bars k w) 8 _ v refl l c.1 in
    let s = passed (size_bars h.limits.area k w) 9 _ v refl l m.1 in
    record { tag = t.0; option = o.0; port = q.0; password = c.0; mode = m.0; size = s.0; room = decided (room_bars h w) v s.1 }

-- where either of two tests would bar, neither does
neither : (b c : Bool) → cond b true c ≡ false → (b ≡ false) × (c ≡ false)
neither true c e = absurd (false-true (sym e))
neither false c e = (refl, e)

-- ---- a new area

-- room for an area of a size
pub record Space (h : Head) (size : ℕ) : Type 0 where
  pub some : 1 ≤ size
  pub small : size ≤ h.limits.area
  pub few : h.count < h.limits.tags
  pub room : h.used + size ≤ h.limits.memory

-- no room for it: "if 32 tags exist or the sizes of all areas plus the new one exceed 8,192"
abbrev pub NoRoom : Head → ℕ → Type 0
NoRoom h size = (h.limits.tags ≤ h.count) ⊎ (h.limits.memory < h.used + size)

-- what an allocation that is allowed tells
pub record Granted (h : Head) (new : Attributes) : Type 0 where
  pub gate : unit_managed new.tag ≡ false
  pub space : Space h new.size

-- what a fitting with first data of n octets tells
pub record Fitted (h : Head) (new : Attributes) (n : ℕ) : Type 0 where
  pub own : unit_managed new.tag ≡ true
  pub option : lock_unfitted h.passwords new.lock ≡ false
  pub held : n ≤ new.size
  pub space : Space h new.size

-- where an allocation is denied by 5
pub record Full (h : Head) (k : Known) (new : Attributes) : Type 0 where
  pub fresh : k ≡ Nothing
  pub gate : unit_managed new.tag ≡ false
  pub some : 1 ≤ new.size
  pub small : new.size ≤ h.limits.area
  pub full : NoRoom h new.size

-- where a fitting is
pub record FullFit (h : Head) (k : Known) (new : Attributes) (n : ℕ) : Type 0 where
  pub fresh : k ≡ Nothing
  pub own : unit_managed new.tag ≡ true
  pub option : lock_unfitted h.passwords new.lock ≡ false
  pub some : 1 ≤ new.size
  pub small : new.size ≤ h.limits.area
  pub held : n ≤ new.size
  pub full : NoRoom h new.size

-- a size that is not bad is 1 to the greatest,
good : (area size : ℕ) → bad_size area size ≡ false → (1 ≤ size) × (size ≤ area)
good area size e =
    let b = neither (ltb size 1) (ltb area size) e in
    (ltb-false size 1 b.0, ltb-false area size b.1)

-- and such a size is not bad
not-bad : (area size : ℕ) → 1 ≤ size → size ≤ area → bad_size area size ≡ false
not-bad area size b c = rw (le-ltb size 1 b, le-ltb area size c)

-- a size that is not bad, and room for it
spaced : (h : Head) (size : ℕ) → bad_size h.limits.area size ≡ false → no_room h size ≡ false → Space h size
spaced h size e r =
    let g = good h.limits.area size e in
    let b = neither (leb h.limits.tags h.count) (ltb h.limits.memory (h.used + size)) r in
    record { some = g.0; small = g.1; few = leb-false _ _ b.0; room = ltb-false _ _ b.1 }

-- where there is space, room does not bar
roomy : (h : Head) (size : ℕ) → Space h size → no_room h size ≡ false
roomy h size s = rw (lt-leb h.limits.tags h.count s.few, le-ltb h.limits.memory (h.used + size) s.room)

-- where room bars, tags or octets are lacking,
lacking : (h : Head) (size : ℕ) → no_room h size ≡ true → NoRoom h size
lacking h size e = go (leb h.limits.tags h.count) refl e
  where
    go : (b : Bool) → leb h.limits.tags h.count ≡ b → cond b true (ltb h.limits.memory (h.used + size)) ≡ true → NoRoom h size
    go true q r = inl (leb-true _ _ q)
    go false q r = inr (ltb-true _ _ r)

-- and where they are, it bars
barring : (h : Head) (size : ℕ) → NoRoom h size → no_room h size ≡ true
barring h size (inl q) = rw (le-leb h.limits.tags h.count q)
barring h size (inr q) = rw (lt-ltb h.limits.memory (h.used + size) q) (go (leb h.limits.tags h.count))
  where
    go : (b : Bool) → cond b true true ≡ true
    go true = refl
    go false = refl

-- only a tag that is not registered may be a new one, allocated by the gate
new-gate : (k : Known) (new : Attributes) → tag_bars k (Allocate new) ≡ false → (k ≡ Nothing) × (unit_managed new.tag ≡ false)
new-gate Nothing new e = (refl, e)
new-gate (Tag t) new e = absurd (false-true (sym e))

-- or fitted by the unit
new-own : (k : Known) (new : Attributes) (n : ℕ) → tag_bars k (Fit new n) ≡ false → (k ≡ Nothing) × (unit_managed new.tag ≡ true)
new-own Nothing new n e = (refl, not-false _ e)
new-own (Tag t) new n e = absurd (false-true (sym e))

-- a tag of any mode may be freed
free-in-any : (m : Mode) → use_bars m Free ≡ false
free-in-any Both = refl
free-in-any ReadOnly = refl
free-in-any WriteOnly = refl

module _ (h : Head) (p : Port) (a : Access) where
  -- ---- 6, by what is known of the tag

  -- to free a tag that is not registered is 6
  pub stranger-free : admission h Nothing Free p a ≡ Denied 6
  unfolding admission
  stranger-free = refl

  -- to read one is
  pub stranger-read : admission h Nothing Read p a ≡ Denied 6
  unfolding admission
  stranger-read = refl

  -- to write one is, data of any length
  pub stranger-write : (n : ℕ) → admission h Nothing (Write n) p a ≡ Denied 6
  unfolding admission
  stranger-write n = refl

  -- to allocate a registered tag is 6
  pub known-allocate : (t new : Attributes) → admission h (Tag t) (Allocate new) p a ≡ Denied 6
  unfolding admission
  known-allocate t new = refl

  -- to fit one is
  pub known-fit : (t new : Attributes) (n : ℕ) → admission h (Tag t) (Fit new n) p a ≡ Denied 6
  unfolding admission
  known-fit t new n = refl

  -- ---- what an allowed operation tells

  -- data that may be written fits its area
  pub allowed-write : (t : Attributes) (n : ℕ) → admission h (Tag t) (Write n) p a ≡ Allowed → n ≤ t.size
  allowed-write t n e = ltb-false _ _ (passed-all h (Tag t) (Write n) p a Allowed refl e).size

  -- a tag that may be allocated is gate-allocated, and there is room for its area
  pub allowed-allocate : (k : Known) (new : Attributes) → admission h k (Allocate new) p a ≡ Allowed → Granted h new
  allowed-allocate k new e =
      let c = passed-all h k (Allocate new) p a Allowed refl e in
      record { gate = (new-gate k new c.tag).1; space = spaced h new.size c.size c.room }

  -- a tag that may be fitted is unit-managed, and there is room for its area and in it for its data
  pub allowed-fit : (k : Known) (new : Attributes) (n : ℕ) → admission h k (Fit new n) p a ≡ Allowed → Fitted h new n
  allowed-fit k new n e =
      let c = passed-all h k (Fit new n) p a Allowed refl e in
      let b = neither (bad_size h.limits.area new.size) (ltb new.size n) c.size in
      record { own = (new-own k new n c.tag).1; option = c.option; held = ltb-false _ _ b.1; space = spaced h new.size b.0 c.room }

  -- ---- where a new tag is allowed

  -- an allocation, of a tag that is not registered: exactly where what it tells is so
  pub allocate-allowed : (k : Known) (new : Attributes) → k ≡ Nothing → Granted h new → admission h k (Allocate new) p a ≡ Allowed
  unfolding admission
  allocate-allowed k new e g =
      let s = g.space in
      rw (e, g.gate, not-bad h.limits.area new.size s.some s.small, roomy h new.size s)

  -- a fitting likewise
  pub fit-allowed : (k : Known) (new : Attributes) (n : ℕ) → k ≡ Nothing → Fitted h new n → admission h k (Fit new n) p a ≡ Allowed
  unfolding admission
  fit-allowed k new n e f =
      let s = f.space in
      rw (e, f.own, f.option, not-bad h.limits.area new.size s.some s.small, le-ltb new.size n f.held, roomy h new.size s)

  -- ---- 5

  -- an allocation is denied by 5 only where nothing but the room is missing,
  pub five-only : (k : Known) (new : Attributes) → admission h k (Allocate new) p a ≡ Denied 5 → Full h k new
  five-only k new e =
      let c = passed-all h k (Allocate new) p a (Denied 5) refl e in
      let g = new-gate k new c.tag in
      let s = good h.limits.area new.size c.size in
      record { fresh = g.0; gate = g.1; some = s.0; small = s.1; full = lacking h new.size c.room }

  -- and there it is
  pub five-there : (k : Known) (new : Attributes) → Full h k new → admission h k (Allocate new) p a ≡ Denied 5
  unfolding admission
  five-there k new f = rw (f.fresh, f.gate, not-bad h.limits.area new.size f.some f.small, barring h new.size f.full)

  -- a fitting is denied by 5 only where nothing but the room is missing,
  pub fit-five-only : (k : Known) (new : Attributes) (n : ℕ) → admission h k (Fit new n) p a ≡ Denied 5 → FullFit h k new n
  fit-five-only k new n e =
      let c = passed-all h k (Fit new n) p a (Denied 5) refl e in
      let g = new-own k new n c.tag in
      let b = neither (bad_size h.limits.area new.size) (ltb new.size n) c.size in
      let s = good h.limits.area new.size b.0 in
      record { fresh = g.0; own = g.1; option = c.option; some = s.0; small = s.1; held = ltb-false _ _ b.1; full = lacking h new.size c.room }

  -- and there it is
  pub fit-five-there : (k : Known) (new : Attributes) (n : ℕ) → FullFit h k new n → admission h k (Fit new n) p a ≡ Denied 5
  unfolding admission
  fit-five-there k new n f = rw (f.fresh, f.own, f.option, not-bad h.limits.area new.size f.some f.small, le-ltb new.size n f.held, barring h new.size f.full)

  -- no other want is denied by 5: of Free, Read and Write the premise is refl
  pub five-else : (k : Known) (w : Want) → room_bars h w ≡ false → admission h k w p a ≡ Denied 5 → ⊥
  five-else k w r e = false-true (sym r ∙ (passed-all h k w p a (Denied 5) refl e).room)

  -- ---- document 01's lines, operation by operation. Of a tag that is not registered Free, Read and Write are the 6 above

  -- "Free: 6 if not registered or unit-managed; 11 if SPF is required and the port is normal; 10 for password."
  pub free-lines : (t : Attributes) → admission h (Tag t) Free p a
      ≡ cond (unit_managed t.tag) (Denied 6)
      (cond (port_bars (Tag t) p) (Denied 11)
      (cond (password_bars (Tag t) a) (Denied 10) Allowed))
  unfolding admission
  free-lines t = rw (free-in-any t.mode)

  -- "Read: 6, 11, 10, then 8 if write only."
  pub read-lines : (t : Attributes) → admission h (Tag t) Read p a
      ≡ cond (port_bars (Tag t) p) (Denied 11)
      (cond (password_bars (Tag t) a) (Denied 10)
      (cond (use_bars t.mode Read) (Denied 8) Allowed))
  unfolding admission
  read-lines t = refl

  -- "Write: 6, 11, 10, 8 if read only, then 9 if the data is longer than the area."
  pub write-lines : (t : Attributes) (n : ℕ) → admission h (Tag t) (Write n) p a
      ≡ cond (port_bars (Tag t) p) (Denied 11)
      (cond (password_bars (Tag t) a) (Denied 10)
      (cond (use_bars t.mode (Write n)) (Denied 8)
      (cond (ltb t.size n) (Denied 9) Allowed)))
  unfolding admission
  write-lines t n = refl

  -- "Allocate: 6 if the tag is unit-managed or registered; 9 if the size is not 1 to 1,024; 5 if 32 tags exist or the sizes of all areas plus the new one exceed 8,192."
  pub allocate-lines : (k : Known) (new : Attributes) → admission h k (Allocate new) p a
      ≡ cond (is_tag k) (Denied 6)
      (cond (unit_managed new.tag) (Denied 6)
      (cond (bad_size h.limits.area new.size) (Denied 9)
      (cond (no_room h new.size) (Denied 5) Allowed)))
  unfolding admission
  allocate-lines (Tag t) new = refl
  allocate-lines Nothing new = refl

  -- Fitting: "6 if the tag is not unit-managed or is registered; 12 if it has a password and passwords are not fitted; 9 for a bad size or data longer than it; 5 as above."
  pub fit-lines : (k : Known) (new : Attributes) (n : ℕ) → admission h k (Fit new n) p a
      ≡ cond (is_tag k) (Denied 6)
      (cond (not (unit_managed new.tag)) (Denied 6)
      (cond (lock_unfitted h.passwords new.lock) (Denied 12)
      (cond (cond (bad_size h.limits.area new.size) true (ltb new.size n)) (Denied 9)
      (cond (no_room h new.size) (Denied 5) Allowed))))
  unfolding admission
  fit-lines (Tag t) new n = refl
  fit-lines Nothing new n = refl

  -- ---- a password that is not the tag's

  -- the verdict is one of 6, 11 and 10: mode, sizes and room are not looked at
  pub lock-decides : (t : Attributes) (w : Want) → lock_bars t.lock a ≡ true → admission h (Tag t) w p a ≡ cond (tag_bars (Tag t) w) (Denied 6) (cond (port_bars (Tag t) p) (Denied 11) (Denied 10))
  unfolding admission
  lock-decides t (Allocate new) b = refl
  lock-decides t (Fit new n) b = refl
  lock-decides t Free b = rw b
  lock-decides t Read b = rw b
  lock-decides t (Write n) b = rw b

  -- nothing is allowed then
  pub barred-denied : (t : Attributes) (w : Want) → lock_bars t.lock a ≡ true → admission h (Tag t) w p a ≡ Allowed → ⊥
  barred-denied t w b e = false-true (sym (passed-all h (Tag t) w p a Allowed refl e).password ∙ b)

-- what the port and the want say of a tag lies in its number and its SPF
port-alike : (t t' : Attributes) (p : Port) → t.spf ≡ t'.spf → port_bars (Tag t) p ≡ port_bars (Tag t') p
port-alike t t' Normal e = e
port-alike t t' Secure e = refl

tag-alike : (t t' : Attributes) (w : Want) → t.tag ≡ t'.tag → tag_bars (Tag t) w ≡ tag_bars (Tag t') w
tag-alike t t' (Allocate new) e = refl
tag-alike t t' (Fit new n) e = refl
tag-alike t t' Free e = ap unit_managed e
tag-alike t t' Read e = refl
tag-alike t t' (Write n) e = refl

-- who has not the password learns nothing of it, of the tag's mode and size, or of the rest of the unit
pub barred-alike : (h h' : Head) (p : Port) (a a' : Access) (t t' : Attributes) (w : Want) → t.tag ≡ t'.tag → t.spf ≡ t'.spf → lock_bars t.lock a ≡ true → lock_bars t'.lock a' ≡ true → admission h (Tag t) w p a ≡ admission h' (Tag t') w p a'
barred-alike h h' p a a' t t' w x s b b' = rw (lock-decides h p a t w b, lock-decides h' p a' t' w b', tag-alike t t' w x, port-alike t t' p s)
