-- Spans and lists that stand in octets s are determined by what they show and where they end.
use Prim.Native.Nat.{ℕ, ◌+◌, ◌-◌, ◌≤◌}
use mathlib.Core.Path.{◌≡◌, sym, ap, ◌∙◌}
use mathlib.Core.List.{List, [], ◌++◌, append-nil}
use native.Mathlib.Omega.{arith}
use lib.ListN.{length, drop, length-drop}
use lib.Seq.{length-take-le}
use Rattle.octets.specs.Reading.{ok, forget, Octets}
use Rattle.octets.specs.Layout.{Layout, entries, put_all}
use Rattle.octets.specs.View.{within, entries_in}
use Rattle.octets.specs.declared.Span.{Span}
use Rattle.octets.specs.declared.Entries.{Entries}
use Rattle.octets.proofs.Places.{octets-drop, forgot}
use Rattle.octets.proofs.Lawful.{Lawful, entries-back}

-- the span at the end of s that has the octets l, and the list there that has the entries es
abbrev pub span_at : List ℕ → List ℕ → Span
span_at s l = record { start = length s - length l; len = length l }

abbrev pub list_at : {A : Type 0} → Layout A → List ℕ → List A → Entries
list_at L s es = record { start = length s - length (put_all L es); count = length es }

module _ (s : List ℕ) where
  -- a span that lies within s is as long as its octets
  pub span-length : (p : Span) → p.start + p.len ≤ length s → length (within s p) ≡ p.len
  span-length p h = length-take-le p.len (drop p.start s) (rw length-drop (omega arith))

  -- spans that end at one place and show the same octets are one
  pub span_same : (p o : Span) {next : ℕ} → p.start + p.len ≡ next → o.start + o.len ≡ next → next ≤ length s → within s p ≡ within s o → p ≡ o
  span_same p o h k f q =
      let e : p.len ≡ o.len = sym (span-length p (omega arith)) ∙ ap length q ∙ span-length o (omega arith) in
      let d : p.start ≡ o.start = omega arith in
      rw (e, d)

  -- a span that ends where s ends is the one with its octets there
  pub span-is : (p : Span) → p.start + p.len ≡ length s → span_at s (within s p) ≡ p
  span-is p h =
      let e : length (within s p) ≡ p.len = span-length p (omega arith) in
      let d : length s - length (within s p) ≡ p.start = omega arith in
      λ i. record { start = d i; len = e i }

  module _ {A : Type 0} (L : Layout A) (P : Lawful L) (o : Octets s) (x : Entries) where
    -- a list that was gone over to r has as many entries as it says, and their octets stand from its start to r
    pub list-spans : (r : List ℕ) → forget (entries L x.count (drop x.start s)) ≡ ok tt r → (drop x.start s ≡ put_all L (entries_in L s x) ++ r) × (length (entries_in L s x) ≡ x.count)
    list-spans r h =
        let l = drop x.start s in
        let y = entries-back L P x.count l (entries_in L s x) r (octets-drop x.start s o) (forgot (entries L x.count l) r (sym h)) in
        (y.0, y.2)

    -- a list that ends where s ends is the one with its entries there
    pub list-is : x.start ≤ length s → forget (entries L x.count (drop x.start s)) ≡ ok tt [] → list_at L s (entries_in L s x) ≡ x
    list-is g h =
        let y = list-spans [] h in
        let m : length (drop x.start s) ≡ length (put_all L (entries_in L s x)) = ap length (y.0 ∙ append-nil (put_all L (entries_in L s x))) in
        let d : length s - length (put_all L (entries_in L s x)) ≡ x.start = omega (arith, length-drop x.start s) in
        λ i. record { start = d i; count = y.1 i }
