-- A list of a request that is known to read to its end, as a loop goes over it: the next entry is there, and behind it the list still reads to its end. Over any layout
-- of entries.
use Prim.Native.Nat.{ℕ, suc, ◌+◌, ◌-◌, ◌<◌, ◌≤◌}
use mathlib.Core.Path.{◌≡◌, refl, sym, ◌∙◌}
use mathlib.Core.Bool.{true}
use mathlib.Core.List.{List, [], ◌∷◌}
use native.Mathlib.Omega.{arith}
use lib.ListN.{length, drop}
use Rattle.octets.specs.Reading.{Read, bad, ok, and_then, forget, Octets}
use Rattle.octets.specs.Layout.{Layout, entries, taken, fit_all}
use Rattle.octets.specs.View.{entries_in}
use Rattle.octets.specs.declared.Entries.{Entries}
use Rattle.octets.specs.declared.Fault.{Fault}
use Rattle.octets.proofs.Lawful.{Lawful, entries-back}
use Rattle.octets.proofs.Places.{bad-ok, walk-bad, walk-on, forgot, octets-drop}
use Rattle.requests.specs.View.{ListEnds}

-- an entry in front of a list that reads to its end
cons-taken : {A : Type 0} (a : A) (p : Read (List A)) → forget (and_then p (λ es t. ok (a ∷ es) t)) ≡ ok tt []
    → taken (and_then p (λ es t. ok (a ∷ es) t)) ≡ a ∷ taken p
cons-taken a (bad f) e = absurd (bad-ok e)
cons-taken a (ok es t) e = refl

-- before the entry i of n, the octets l being left
module _ {A : Type 0} (L : Layout A) (n i : ℕ) (l : List ℕ) (h : i < n) (g : forget (entries L (n - i) l) ≡ ok tt [])
    {a : A} {r : List ℕ} (e : ok a r ≡ L.get l) where
  -- behind the next entry the list still reads to its end
  pub still-good : forget (entries L (n - (i + 1)) r) ≡ ok tt []
  still-good = sym (walk-on L n i l h a r e) ∙ g

  -- the entries that are left are it and those behind it
  pub taken-on : taken (entries L (n - i) l) ≡ a ∷ taken (entries L (n - (i + 1)) r)
  taken-on =
      let q : n - i ≡ suc (n - (i + 1)) = omega arith in
      rw (q, ← e) (cons-taken a (entries L (n - (i + 1)) r) (rw (q, ← e) at g))

module _ {A : Type 0} (L : Layout A) (s : List ℕ) (x : Entries) where
  -- i entries were read, up to a place: from there the others read to the end
  pub record Walk (at i : ℕ) : Type 0 where
    pub place : at ≤ length s
    pub good : forget (entries L (x.count - i) (drop at s)) ≡ ok tt []

  -- the entries that are left
  abbrev pub left : ℕ → ℕ → List A
  left at i = taken (entries L (x.count - i) (drop at s))

  -- at first it is the whole list
  pub walk-first : ListEnds L s x → Walk x.start 0
  walk-first h = let e : x.count - 0 ≡ x.count = omega arith in record { place = h.0; good = rw e h.1 }

  pub left-first : left x.start 0 ≡ entries_in L s x
  left-first = let e : x.count - 0 ≡ x.count = omega arith in rw e

  module _ {at i : ℕ} (w : Walk at i) where
    -- behind the last none is left
    pub left-none : x.count ≤ i → left at i ≡ []
    left-none h = let e : x.count - i ≡ 0 = omega arith in rw e

    module _ (h : i < x.count) where
      -- before it the next entry is there
      pub never-bad : {f : Fault} → bad f ≡ L.get (drop at s) → ⊥
      never-bad {f} e = bad-ok (sym (walk-bad L x.count i (drop at s) h f e) ∙ w.good)

      module _ {a : A} (next : ℕ) (e : ok a (drop next s) ≡ L.get (drop at s)) where
        -- behind it the list still reads to its end
        pub walk-next : next ≤ length s → Walk next (i + 1)
        walk-next n = record { place = n; good = still-good L x.count i (drop at s) h w.good e }

        -- the entries that were left are it and those behind it
        pub left-on : left at i ≡ a ∷ left next (i + 1)
        left-on = taken-on L x.count i (drop at s) h w.good e

-- the whole list: each entry fits its fields, and there are as many as it says
pub list-whole : {A : Type 0} (L : Layout A) → Lawful L → (s : List ℕ) (x : Entries) → Octets s → ListEnds L s x
    → (fit_all L (entries_in L s x) ≡ true) × (length (entries_in L s x) ≡ x.count)
list-whole L P s x o h =
    let l = drop x.start s in
    let y = entries-back L P x.count l (entries_in L s x) [] (octets-drop x.start s o) (forgot (entries L x.count l) [] (sym h.1)) in
    (y.1, y.2)
