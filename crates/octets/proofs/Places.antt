-- Lists at a position, as the code's i + 1 has it; readings, their ends and their inversion.
use Prim.Native.Nat.{ℕ, zero, suc, ◌+◌, ◌-◌, ◌<◌, ◌≤◌}
use mathlib.Core.Path.{◌≡◌, refl, sym, ap}
use mathlib.Core.Bool.{Bool, true, false, ◌&&◌, cond}
use mathlib.Core.List.{List, [], ◌∷◌, ◌++◌}
use native.Mathlib.Omega.{arith}
use native.Mathlib.Numerals.{add-one}
use lib.ListN.{length, get_or, take, drop, drop_of_length-le, length-drop}
use lib.Seq.{drop-cons, drop-drop, get_or-drop, get_or-append-add}
use lib.Dec.{lit<}
use borrow.Author.Tests.{le-leb, lt-leb}
use Rattle.octets.specs.Reading.{Read, bad, ok, and_then, at_end, forget, Octets, told, message}
use Rattle.octets.specs.Layout.{Layout, take_raw, entries, taken}
use Rattle.octets.specs.declared.Fault.{Fault}
use Rattle.octets.specs.declared.Fault.TheVariants.{Other}

-- ---- a list at a position

-- the octets from a place within the list, and from its end
pub here : (s : List ℕ) (at : ℕ) → at < length s → drop at s ≡ get_or s at 0 ∷ drop (at + 1) s
here s at h = rw (add-one, drop-cons s at 0)

pub here_end : (s : List ℕ) (at : ℕ) → length s ≤ at → drop at s ≡ []
here_end s at h = drop_of_length-le s h

-- two positions within a list are told apart by what stands from there on
pub drop-same : (s : List ℕ) (i j : ℕ) → i ≤ length s → j ≤ length s → drop i s ≡ drop j s → i ≡ j
drop-same s i j h k e = omega (arith, length-drop i s, length-drop j s, ap length e)

-- ---- octets of a part

pub octets-drop : (n : ℕ) (l : List ℕ) → Octets l → Octets (drop n l)
octets-drop n l o k = rw get_or-drop (o (n + k))

pub octets-take : (n : ℕ) (l : List ℕ) → Octets l → Octets (take n l)
octets-take zero l o k = lit< tt
octets-take (suc n) [] o k = lit< tt
octets-take (suc n) (a ∷ l) o zero = o 0
octets-take (suc n) (a ∷ l) o (suc k) = octets-take n l (λ j. o (suc j)) k

pub octets-rest : (u r : List ℕ) → Octets (u ++ r) → Octets r
octets-rest u r o k = rw (← get_or-append-add u r k 0) (o (length u + k))

-- ---- tests

-- a test that does not matter
pub pick_same : {A : Type 0} (b : Bool) (x : A) → cond b x x ≡ x
pick_same true x = refl
pick_same false x = refl

-- two tests hold together or not
pub both : (a b : Bool) → (a && b) ≡ true → (a ≡ true) × (b ≡ true)
both true true e = (refl, refl)
both true false e = let z : ◌≡◌ {A = ℕ} 0 1 = cc in absurd (omega arith)
both false b e = let z : ◌≡◌ {A = ℕ} 0 1 = cc in absurd (omega arith)

pub both-are : (a b : Bool) → a ≡ true → b ≡ true → (a && b) ≡ true
both-are a b h k = rw (h, k)

pub false-true : false ≡ true → ⊥
false-true e = let z : ◌≡◌ {A = ℕ} 0 1 = cc in omega arith

-- ---- readings

-- a reading fails or not, with one fault, or one value and one rest
pub bad-ok : {A : Type 0} {f : Fault} {a : A} {r : List ℕ} → bad f ≡ ok a r → ⊥
bad-ok e = let z : ◌≡◌ {A = ℕ} 0 1 = cc in omega arith

pub ok-val : {A : Type 0} {a b : A} {r t : List ℕ} → ok a r ≡ ok b t → a ≡ b
ok-val e = cc

pub ok-rest : {A : Type 0} {a b : A} {r t : List ℕ} → ok a r ≡ ok b t → r ≡ t
ok-rest e = cc

pub bad-same : {A : Type 0} {f g : Fault} → ◌≡◌ {A = Read A} (bad f) (bad g) → f ≡ g
bad-same e = cc

-- a message that is told was read
pub told-ok : {A : Type 0} (p : Read A) (a : A) → told p ≡ message a → (r : List ℕ) × (p ≡ ok a r)
told-ok (bad f) a e = let z : ◌≡◌ {A = ℕ} 0 1 = cc in absurd (omega arith)
told-ok (ok b r) a e = let q : b ≡ a = cc in (r, rw q)

-- what a reading that goes on behind another had from the first
pub record Went {A B : Type 0} (p : Read A) (f : A → List ℕ → Read B) (b : B) (r : List ℕ) : Type 0 where
  pub val : A
  pub rest : List ℕ
  pub first : p ≡ ok val rest
  pub then : f val rest ≡ ok b r

pub went : {A B : Type 0} (p : Read A) (f : A → List ℕ → Read B) (b : B) (r : List ℕ) → and_then p f ≡ ok b r → Went p f b r
went (bad g) f b r e = absurd (bad-ok e)
went (ok a l) f b r e = record { val = a; rest = l; first = refl; then = e }

-- ---- the last octet

-- a reading to the last octet, and one that leaves some
pub end-there : {A : Type 0} (s : List ℕ) (a : A) (next : ℕ) → length s ≤ next → at_end (ok a (drop next s)) ≡ ok a []
end-there s a next h = rw (here_end s next h)

pub end_more : {A : Type 0} (s : List ℕ) (a : A) (next : ℕ) → next < length s → at_end (ok a (drop next s)) ≡ bad Other
end_more s a next h = rw (here s next h)

-- what a reading to the last octet had
pub end_back : {A : Type 0} (p : Read A) (a : A) (r : List ℕ) → at_end p ≡ ok a r → (p ≡ ok a []) × (r ≡ [])
end_back (bad f) a r e = absurd (bad-ok e)
end_back (ok b []) a r e = (rw (ok-val e), sym (ok-rest e))
end_back (ok b (x ∷ t)) a r e = absurd (bad-ok e)

-- ---- octets as they stand

pub raw-short : (s : List ℕ) (at n : ℕ) → length s - at < n → take_raw n (drop at s) ≡ bad Other
raw-short s at n h = rw (length-drop at s, lt-leb _ _ h)

pub raw-fits : (s : List ℕ) (at n : ℕ) → n ≤ length s - at → take_raw n (drop at s) ≡ ok (take n (drop at s)) (drop (at + n) s)
raw-fits s at n h = rw (length-drop at s, le-leb _ _ h, drop-drop n at s)

-- ---- a list that is gone over, entry by entry

forget-cons : {A : Type 0} (a : A) (p : Read (List A)) → forget (and_then p (λ es t. ok (a ∷ es) t)) ≡ forget p
forget-cons a (bad f) = refl
forget-cons a (ok es t) = refl

module _ {A : Type 0} (L : Layout A) (n i : ℕ) (l : List ℕ) (h : i < n) where
  -- the entry at hand fails, and so the list
  pub walk-bad : (f : Fault) → bad f ≡ L.get l → forget (entries L (n - i) l) ≡ bad f
  walk-bad f e = let q : n - i ≡ suc (n - (i + 1)) = omega arith in rw (q, ← e)

  -- it reads, and the list goes on behind it
  pub walk-on : (a : A) (r : List ℕ) → ok a r ≡ L.get l → forget (entries L (n - i) l) ≡ forget (entries L (n - (i + 1)) r)
  walk-on a r e = let q : n - i ≡ suc (n - (i + 1)) = omega arith in rw (q, ← e) (forget-cons a (entries L (n - (i + 1)) r))

-- what is gone over to r reads as its values and r
pub forgot : {A : Type 0} (p : Read (List A)) (r : List ℕ) → ok tt r ≡ forget p → p ≡ ok (taken p) r
forgot (bad f) r e = absurd (bad-ok (sym e))
forgot (ok es t) r e = let q : r ≡ t = cc in rw q

pub forgot-bad : {A : Type 0} (p : Read A) (f : Fault) → bad f ≡ forget p → p ≡ bad f
forgot-bad (bad g) f e = let q : f ≡ g = cc in rw q
forgot-bad (ok es t) f e = absurd (bad-ok e)
