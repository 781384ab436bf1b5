-- Where the tags' areas stand: the slots of tags one after another, and what a change, a tag less and a tag more do to them.
use Prim.Native.Nat.{ℕ, zero, suc, ◌+◌, ◌≤◌, ◌<◌}
use mathlib.Core.Path.{◌≡◌, refl, sym, ap, ◌∙◌}
use mathlib.Core.Bool.{Bool, true, false, cond}
use mathlib.Core.List.{List, [], ◌∷◌, ◌++◌}
use native.Mathlib.Omega.{arith}
use native.Mathlib.Nat.{add-zero}
use native.Mathlib.Decide.{dec_lt}
use lib.ListN.{length, take, get_or}
use lib.Dec.{eqb}
use borrow.Author.Tests.{lt-ltb, le-ltb}
use Rattle.rows.specs.Keyed.{nowhere, look, change, without, Apart}
use Rattle.rows.specs.Row.{empty, slot_tag, low}
use Rattle.rows.specs.declared.Slot.{Slot}
use Rattle.rows.proofs.Places.{remove}
use Rattle.rows.proofs.Keys
use Rattle.rows.proofs.Rows.{lowered}
use Rattle.store.specs.Model.{Tag, tag_id, total, slot_of, located, arranged}
use Rattle.store.specs.Steps.{written}
use Rattle.store.proofs.Valid.{none}

pub length-located : (k : ℕ) (m : List Tag) → length (located k m) ≡ length m
unfolding located
length-located k [] = refl
length-located k (t ∷ m) = ap suc (length-located (k + t.about.size) m)

-- the slot at a place is that of the tag there, behind the areas of the tags before it
pub located-at : (k : ℕ) (m : List Tag) (i : ℕ) → i < length m → get_or (located k m) i empty ≡ slot_of (k + total (take i m)) (get_or m i none)
unfolding located total
located-at k [] i h = absurd (omega arith)
located-at k (t ∷ m) zero h = ap (λ (a : ℕ). slot_of a t) (sym (add-zero k))
located-at k (t ∷ m) (suc i) h =
    located-at (k + t.about.size) m i (omega arith) ∙ ap (λ (a : ℕ). slot_of a (get_or m i none)) (omega arith)

-- one more comes behind the others
pub located-add : (k : ℕ) (m : List Tag) (t : Tag) → located k (m ++ t ∷ []) ≡ located k m ++ slot_of (k + total m) t ∷ []
unfolding located total
located-add k [] t = ap (λ (a : ℕ). slot_of a t ∷ []) (sym (add-zero k))
located-add k (u ∷ m) t =
    ap (λ (r : List Slot). slot_of k u ∷ r)
    (located-add (k + u.about.size) m t ∙ ap (λ (a : ℕ). located (k + u.about.size) m ++ slot_of a t ∷ []) (omega arith))

-- the slot of a tag with other contents
abbrev pub refilled : ℕ → Slot → Slot
refilled n s = record { about = s.about; at = s.at; held = n }

-- other contents move no area
pub located-change : (k : ℕ) (m : List Tag) (x : ℕ) (xs : List ℕ)
    → located k (change tag_id x (written xs) m) ≡ change slot_tag x (refilled (length xs)) (located k m)
unfolding located change
located-change k [] x xs = refl
located-change k (t ∷ m) x xs = go (eqb (tag_id t) x) (located-change (k + t.about.size) m x xs)
  where
    go : (b : Bool)
        → located (k + t.about.size) (change tag_id x (written xs) m) ≡ change slot_tag x (refilled (length xs)) (located (k + t.about.size) m)
        → located k (cond b (written xs t) t ∷ change tag_id x (written xs) m)
        ≡ cond b (refilled (length xs) (slot_of k t)) (slot_of k t) ∷ change slot_tag x (refilled (length xs)) (located (k + t.about.size) m)
    go true r = ap (λ (l : List Slot). slot_of k (written xs t) ∷ l) r
    go false r = ap (λ (l : List Slot). slot_of k t ∷ l) r

-- a place that was moved by n past `at` comes back; one up to `at` stays
low-back : (at n a : ℕ) → at ≤ a → low at n (a + n) ≡ a
low-back at n a h = go (dec_lt at (a + n))
  where
    go : Dec (at < a + n) → low at n (a + n) ≡ a
    go (yes l) = rw (lt-ltb at (a + n) l) (omega arith)
    go (no l) = rw (le-ltb at (a + n) (omega arith)) (omega arith)

low-stays : (at n a : ℕ) → a ≤ at → low at n a ≡ a
low-stays at n a h = rw (le-ltb at a h)

moved : (at n k j : ℕ) (m : List Tag) → at ≤ k → j ≡ k + n → located k m ≡ lowered at n (located j m)
unfolding located lowered
moved at n k j [] h e = refl
moved at n k j (t ∷ m) h e =
    ap (λ (r : List Slot). slot_of k t ∷ r) (moved at n (k + t.about.size) (j + t.about.size) m (omega arith) (omega arith))
    ∙ ap (λ (a : ℕ). slot_of a t ∷ lowered at n (located (j + t.about.size) m)) (sym (low-back at n k h) ∙ ap (low at n) (sym e))

-- without the tag at place j the areas behind it start earlier by its size
pub located-remove : (k : ℕ) (m : List Tag) (j at n : ℕ) → j < length m → at ≡ k + total (take j m) → n ≡ (get_or m j none).about.size
    → located k (remove m j) ≡ lowered at n (remove (located k m) j)
unfolding located lowered remove total
located-remove k [] j at n h ea en = absurd (omega arith)
located-remove k (t ∷ m) zero at n h ea en = moved at n k (k + t.about.size) m (omega arith) (omega arith)
located-remove k (t ∷ m) (suc j) at n h ea en =
    ap (λ (r : List Slot). slot_of k t ∷ r) (located-remove (k + t.about.size) m j at n (omega arith) (omega arith) en)
    ∙ ap (λ (a : ℕ). slot_of a t ∷ lowered at n (remove (located (k + t.about.size) m) j)) (sym (low-stays at n k (omega arith)))

-- tags and slots have the same numbers
none-located : (x k : ℕ) (m : List Tag) → look tag_id x m ≡ nowhere → look slot_tag x (located k m) ≡ nowhere
unfolding located look
none-located x k [] h = refl
none-located x k (t ∷ m) h =
    Keys.look-no slot_tag x (slot_of k t) (located (k + t.about.size) m) (Keys.none-head tag_id x t m h)
    ∙ none-located x (k + t.about.size) m (Keys.none_tail tag_id x t m h)

located-none : (x k : ℕ) (m : List Tag) → look slot_tag x (located k m) ≡ nowhere → look tag_id x m ≡ nowhere
unfolding located look
located-none x k [] h = refl
located-none x k (t ∷ m) h =
    Keys.look-no tag_id x t m (Keys.none-head slot_tag x (slot_of k t) (located (k + t.about.size) m) h)
    ∙ located-none x (k + t.about.size) m (Keys.none_tail slot_tag x (slot_of k t) (located (k + t.about.size) m) h)

apart-located : (k : ℕ) (m : List Tag) → Apart tag_id m → Apart slot_tag (located k m)
unfolding located Apart
apart-located k [] p = p
apart-located k (t ∷ m) p = (none-located (tag_id t) (k + t.about.size) m p.0, apart-located (k + t.about.size) m p.1)

-- ---- the order of the table: nothing below `arranged` is known of it outside this file

-- the tag that a slot is of: its place among the tags, which is its area's place in the memory and need not be the row's
pub record Place (m : List Tag) (q : Slot) : Type 0 where
  pub j : ℕ
  pub low : j < length m
  pub is : q ≡ slot_of (total (take j m)) (get_or m j none)

pub length-arranged : (m : List Tag) → length (arranged m) ≡ length m
unfolding arranged
length-arranged m = length-located 0 m

pub apart-arranged : (m : List Tag) → Apart tag_id m → Apart slot_tag (arranged m)
unfolding arranged
apart-arranged m p = apart-located 0 m p

pub place : (m : List Tag) (i : ℕ) → i < length m → Place m (get_or (arranged m) i empty)
unfolding arranged
place m i h = record { j = i; low = h; is = located-at 0 m i h ∙ ap (λ (a : ℕ). slot_of a (get_or m i none)) (omega arith) }

pub arranged-none : (m : List Tag) (x : ℕ) → look slot_tag x (arranged m) ≡ nowhere → look tag_id x m ≡ nowhere
unfolding arranged
arranged-none m x h = located-none x 0 m h

pub arranged-change : (m : List Tag) (x : ℕ) (xs : List ℕ)
    → arranged (change tag_id x (written xs) m) ≡ change slot_tag x (refilled (length xs)) (arranged m)
unfolding arranged
arranged-change m x xs = located-change 0 m x xs

pub arranged-without : (m : List Tag) (x j : ℕ) → Apart tag_id m → j < length m → tag_id (get_or m j none) ≡ x
    → arranged (without tag_id x m) ≡ lowered (total (take j m)) (get_or m j none).about.size (without slot_tag x (arranged m))
unfolding arranged
arranged-without m x j p h e =
    let hl : j < length (located 0 m) = omega (arith, length-located 0 m) in
    let et : slot_tag (get_or (located 0 m) j empty) ≡ x = ap slot_tag (located-at 0 m j h) ∙ e in
    ap (located 0) (sym (Keys.remove-without tag_id none x m j h p e))
    ∙ located-remove 0 m j (total (take j m)) (get_or m j none).about.size h (omega arith) refl
    ∙ ap (lowered (total (take j m)) (get_or m j none).about.size) (Keys.remove-without slot_tag empty x (located 0 m) j hl (apart-located 0 m p) et)

-- one more comes last
pub arranged-add : (m : List Tag) (q : Slot) (t : Tag) → q ≡ slot_of (total m) t → arranged (m ++ t ∷ []) ≡ arranged m ++ q ∷ []
unfolding arranged
arranged-add m q t e =
    located-add 0 m t ∙ ap (λ (a : ℕ). located 0 m ++ slot_of a t ∷ []) (omega arith) ∙ ap (λ (r : Slot). located 0 m ++ r ∷ []) (sym e)
