-- One answer of a reader of lists: where its entries start, how many they are and where it ends are determined by the octets.
use Prim.Native.Nat.{ℕ}
use mathlib.Core.Path.{◌≡◌, sym, ap, ◌∙◌}
use mathlib.Core.List.{List}
use lib.ListN.{length, drop}
use Rattle.octets.specs.Reading.{Octets}
use Rattle.octets.specs.Layout.{Layout}
use Rattle.octets.specs.View.{Reading, entries_in, ListPlace, ListAt}
use Rattle.octets.specs.declared.Entries.{Entries}
use Rattle.octets.specs.declared.Taken.{Taken}
use Rattle.octets.proofs.Places.{drop-same}
use Rattle.octets.proofs.Spans.{list-spans}
use Rattle.octets.proofs.Lawful.{Lawful}
use Rattle.octets.proofs.Unique.{reads-unique}

module _ {A : Type 0} (L : Layout A) (P : Lawful L) (s : List ℕ) (o : Octets s) where
  -- lists that end at one place and have the same entries are one
  list-same : (a b : Taken Entries) → ListPlace L s a → ListPlace L s b → a.next ≡ b.next → entries_in L s a.value ≡ entries_in L s b.value → a.value ≡ b.value
  list-same a b h k n e =
      let u = list-spans s L P o a.value (drop a.next s) h.2 in
      let v = list-spans s L P o b.value (drop b.next s) k.2 in
      let d : drop a.value.start s ≡ drop b.value.start s = u.0 ∙ rw (e, n) (sym v.0) in
      let i = drop-same s a.value.start b.value.start h.0 k.0 d in
      let c : a.value.count ≡ b.value.count = sym u.1 ∙ ap length e ∙ v.1 in
      λ j. record { start = i j; count = c j }

  pub list-unique : (at : ℕ) (a b : Reading Entries) → ListAt L s at a → ListAt L s at b → a ≡ b
  list-unique at a b p q = reads-unique (λ t h. h.1) list-same p q
