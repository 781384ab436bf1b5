-- The table's words and its slots: what the functions of this crate do to a table that is the image of slots. Assumes nothing.
use mathlib.Core.Path.{◌≡◌, refl, sym, ap, ◌∙◌}
use mathlib.Core.List.{List, [], ◌∷◌, ◌++◌, append-nil, append_assoc, flat_map}
use mathlib.Core.Bool.{Bool, true, false, cond}
use Rattle.std.specs.Prelude.{Some, None}
use Rattle.std.proofs.lemmas.Option.{none-some, same_Some}
use Prim.Native.Nat.{ℕ, zero, suc, ◌+◌, ◌-◌, ◌*◌, ◌≤◌, ◌<◌}
use native.Mathlib.Omega.{arith}
use native.Mathlib.Decide.{ℕ_discrete}
use lib.ListN.{length, take, drop, get_or, set, replicate, length-append, length-drop}
use lib.Dec.{eqb}
use lib.Seq.{sets, length-sets, length-take-le, take-suc, drop-cons, set_at, get_or_at, take_all, drop-length}
use borrow.Author.Tests.{eq-eqb, ne_eqb, eqb-true, eqb-false, le-leb, lt-leb, le-ltb, lt-ltb}
use Rattle.octets.specs.Area.{laid}
use Rattle.octets.specs.declared.Access.{Access}
use Rattle.admission.specs.Mode.{mode_code, code_spf, code_mode}
use Rattle.admission.specs.declared.Mode.{Mode}
use Rattle.rows.specs.Keyed.{nowhere, look}
use Rattle.rows.specs.Image.{image, closed}
use Rattle.rows.specs.Row.{slot_tag, empty, lock_word, password_word, words, lock_of, slot_in, slot_at, with_held, rows_in, scan, low, sunk, removed}
use Rattle.rows.specs.declared.Slot.{Slot}
use Rattle.rows.proofs.Moves.{close-sets}
use Rattle.rows.proofs.Places.{remove}
use Rattle.rows.proofs.Images
use Rattle.rows.proofs.Keys

-- ---- a slot and its words

mode-back : (m : Mode) (b : Bool) → code_mode (mode_code m b) ≡ m
mode-back Mode.Both false = refl
mode-back Mode.ReadOnly false = refl
mode-back Mode.WriteOnly false = refl
mode-back Mode.Both true = refl
mode-back Mode.ReadOnly true = refl
mode-back Mode.WriteOnly true = refl

spf-back : (m : Mode) (b : Bool) → code_spf (mode_code m b) ≡ b
spf-back Mode.Both false = refl
spf-back Mode.ReadOnly false = refl
spf-back Mode.WriteOnly false = refl
spf-back Mode.Both true = refl
spf-back Mode.ReadOnly true = refl
spf-back Mode.WriteOnly true = refl

lock-back : (l : Access) → lock_of (lock_word l) (password_word l) ≡ l
lock-back Access.Plain = refl
lock-back (Access.Password p) = refl

-- a slot's words stand for it
pub words_back : (s : Slot) → slot_in (words s) 0 ≡ s
unfolding slot_in words
words_back s = rw (mode-back s.about.mode s.about.spf, spf-back s.about.mode s.about.spf, lock-back s.about.lock)

-- they are eight
pub length-row : (s : Slot) → length (words s) ≡ 8
unfolding words
length-row s = refl

-- the empty slot's are zero
pub words-empty : words empty ≡ replicate 8 0
unfolding words
words-empty = refl

-- so the rows take eight words each
pub length-words : (ss : List Slot) → length (flat_map words ss) ≡ length ss * 8
unfolding flat_map words
length-words [] = refl
length-words (t ∷ m) = omega (arith, length-words m)

-- where row i starts
pub row_at : (ss : List Slot) (i at : ℕ) → i ≤ length ss → at ≡ i * 8 → at ≡ length (flat_map words (take i ss))
row_at ss i at h e = omega (arith, length-words (take i ss), length-take-le i ss h)

-- the table of slots is as long as its slice
pub length-table : (ss : List Slot) (n : ℕ) → length ss * 8 ≤ n → length (image words ss n) ≡ n
length-table ss n h = Images.length-image words ss n (omega (arith, length-words ss))

-- word k of row i
pub word : (ss : List Slot) (i n k j : ℕ) → i < length ss → j ≡ i * 8 + k → k < 8 → get_or (image words ss n) j 0 ≡ get_or (words (get_or ss i empty)) k 0
unfolding words
word ss i n k j h ej hk = Images.image-load empty words ss i n (i * 8) k j h (row_at ss i (i * 8) (omega arith) refl) ej hk

-- ---- one row

-- the slot in the words of row i
pub slot-in : (ss : List Slot) (i n : ℕ) → i < length ss → slot_in (image words ss n) (i * 8) ≡ get_or ss i empty
unfolding slot_in
slot-in ss i n h =
    rw (
      word ss i n 0 (i * 8) h (omega arith) (omega arith),
      word ss i n 1 (i * 8 + 1) h refl (omega arith),
      word ss i n 2 (i * 8 + 2) h refl (omega arith),
      word ss i n 3 (i * 8 + 3) h refl (omega arith),
      word ss i n 4 (i * 8 + 4) h refl (omega arith),
      word ss i n 5 (i * 8 + 5) h refl (omega arith),
      word ss i n 6 (i * 8 + 6) h refl (omega arith),
    )
    (words_back (get_or ss i empty))

-- a row that the table has
pub slot-there : (t : List ℕ) (i : ℕ) → i * 8 + 8 ≤ length t → slot_at t i ≡ slot_in t (i * 8)
unfolding slot_at
slot-there t i h = rw (le-leb _ _ h)

-- a row past the table
pub slot-past : (t : List ℕ) (i : ℕ) → length t < i * 8 + 8 → slot_at t i ≡ empty
unfolding slot_at
slot-past t i h = rw (lt-leb _ _ h)

-- a row is loaded
pub slot-load : (ss : List Slot) (i n : ℕ) → i < length ss → length ss * 8 ≤ n → slot_at (image words ss n) i ≡ get_or ss i empty
slot-load ss i n h l = slot-there (image words ss n) i (omega (arith, length-table ss n l)) ∙ slot-in ss i n h

-- a row that the table has is stored whole
pub put-there : (t : List ℕ) (s : Slot) (j : ℕ) → j + 8 ≤ length t → laid t j (words s) ≡ sets t j (words s)
unfolding laid
put-there t s j h = let e : j + length (words s) ≤ length t = omega (arith, length-row s) in rw (le-leb _ _ e)

-- a row past the table is not stored
pub put-past : (t : List ℕ) (s : Slot) (j : ℕ) → length t < j + 8 → laid t j (words s) ≡ t
unfolding laid
put-past t s j h = let e : length t < j + length (words s) = omega (arith, length-row s) in rw (lt-leb _ _ e)

-- a held length is stored in a row that the table has
pub held-there : (t : List ℕ) (i n : ℕ) → i * 8 + 8 ≤ length t → with_held t i n ≡ set t (i * 8 + 3) n
unfolding with_held
held-there t i n h = rw (le-leb _ _ h)

-- in a row past the table none is
pub held-past : (t : List ℕ) (i n : ℕ) → length t < i * 8 + 8 → with_held t i n ≡ t
unfolding with_held
held-past t i n h = rw (lt-leb _ _ h)

-- the row's other words stay
pub held-store : (ss : List Slot) (i k n : ℕ) → i < length ss → length ss * 8 ≤ n
    → with_held (image words ss n) i k ≡ image words (set ss i (record { about = (get_or ss i empty).about; at = (get_or ss i empty).at; held = k })) n
unfolding words
held-store ss i k n h l =
    held-there (image words ss n) i k (omega (arith, length-table ss n l))
    ∙ Images.image-store empty words ss i n (i * 8) 3 (i * 8 + 3) k _ h (row_at ss i (i * 8) (omega arith) refl) refl (omega arith) refl

-- a row is stored after the last
pub slot-add : (ss : List Slot) (s : Slot) (k n : ℕ) → k ≡ length ss → k * 8 + 8 ≤ n
    → laid (image words ss n) (k * 8) (words s) ≡ image words (ss ++ s ∷ []) n
slot-add ss s k n e h =
    put-there (image words ss n) s (k * 8) (omega (arith, length-table ss n (omega arith)))
    ∙ Images.image-add words ss s n (k * 8) (omega (arith, length-words ss)) (omega (arith, length-row s))

-- ---- finding a row

-- of rows that the table has, it has as many
pub rows-in : (t : List ℕ) (count : ℕ) → count * 8 ≤ length t → rows_in t count ≡ count
rows-in t count h = omega arith

-- and never more
pub rows_fit : (t : List ℕ) (count : ℕ) → rows_in t count * 8 ≤ length t
rows_fit t count = omega arith

-- the row at hand has the tag
pub scan-hit : (t : List ℕ) (x k n : ℕ) → 0 < n → get_or t (k * 8) 0 ≡ x → scan t x k n ≡ Some k
unfolding scan
scan-hit t x k zero h e = absurd (omega arith)
scan-hit t x k (suc n) h e = rw (eq-eqb (get_or t (k * 8) 0) x e)

-- it has not, and the next is looked at
pub scan-miss : (t : List ℕ) (x k n k' n' : ℕ) → k' ≡ suc k → n ≡ suc n' → (get_or t (k * 8) 0 ≡ x → ⊥) → scan t x k n ≡ scan t x k' n'
unfolding scan
scan-miss t x k n k' n' ek en h = rw (ek, en, ne_eqb (get_or t (k * 8) 0) x h)

-- no row is left
pub scan-none : (t : List ℕ) (x k n : ℕ) → n ≡ 0 → scan t x k n ≡ None
unfolding scan
scan-none t x k n e = rw e

-- a row that is found is one of those looked at, and has the tag
pub scan-found : (t : List ℕ) (x k n i : ℕ) → scan t x k n ≡ Some i → (i < k + n) × (get_or t (i * 8) 0 ≡ x)
unfolding scan
scan-found t x k zero i e = absurd (none-some i e)
scan-found t x k (suc n) i e = go (eqb (get_or t (k * 8) 0) x) refl e (scan-found t x (suc k) n i)
  where
    go : (b : Bool) → eqb (get_or t (k * 8) 0) x ≡ b → cond b (Some k) (scan t x (suc k) n) ≡ Some i
        → (scan t x (suc k) n ≡ Some i → (i < suc k + n) × (get_or t (i * 8) 0 ≡ x)) → (i < k + suc n) × (get_or t (i * 8) 0 ≡ x)
    go true q f g = let j : k ≡ i = same_Some k i f in (omega arith, rw (← j) (eqb-true (get_or t (k * 8) 0) x q))
    go false q f g = (omega (arith, (g f).0), (g f).1)

-- where none is found, none of those looked at has the tag
pub scan-missing : (t : List ℕ) (x k n : ℕ) → scan t x k n ≡ None → (i : ℕ) → k ≤ i → i < k + n → get_or t (i * 8) 0 ≡ x → ⊥
unfolding scan
scan-missing t x k zero e i h l q = omega arith
scan-missing t x k (suc n) e i h l q = go (eqb (get_or t (k * 8) 0) x) refl e (ℕ_discrete k i) (scan-missing t x (suc k) n)
  where
    go : (b : Bool) → eqb (get_or t (k * 8) 0) x ≡ b → cond b (Some k) (scan t x (suc k) n) ≡ None → Dec (k ≡ i)
        → (scan t x (suc k) n ≡ None → (i : ℕ) → suc k ≤ i → i < suc k + n → get_or t (i * 8) 0 ≡ x → ⊥) → ⊥
    go true p f d g = none-some k (sym f)
    go false p f (yes j) g = eqb-false (get_or t (k * 8) 0) x p (rw j q)
    go false p f (no j) g = g f i (omega arith) (omega arith) q

-- the first word of a row is its tag
tag_word : (ss : List Slot) (i n : ℕ) → i < length ss → get_or (image words ss n) (i * 8) 0 ≡ slot_tag (get_or ss i empty)
unfolding words
tag_word ss i n h = word ss i n 0 (i * 8) h (omega arith) (omega arith)

module _ (ss : List Slot) (x k n : ℕ) (e : k ≡ length ss) (l : length ss * 8 ≤ n) where
  -- all rows of slots are in the table
  rows_all : rows_in (image words ss n) k ≡ length ss
  rows_all = rows-in (image words ss n) k (omega (arith, length-table ss n l)) ∙ e

  -- a row that is found is a slot's, with the tag
  pub row-found : (i : ℕ) → scan (image words ss n) x 0 (rows_in (image words ss n) k) ≡ Some i → (i < length ss) × (slot_tag (get_or ss i empty) ≡ x)
  row-found i f =
      let g = scan-found (image words ss n) x 0 (length ss) i (rw rows_all at f) in
      let h : i < length ss = omega (arith, g.0) in
      (h, sym (tag_word ss i n h) ∙ g.1)

  -- where none is found, no slot has the tag
  pub row-missing : scan (image words ss n) x 0 (rows_in (image words ss n) k) ≡ None → look slot_tag x ss ≡ nowhere
  row-missing f =
      Keys.at_none slot_tag empty x ss (λ i h q.
      scan-missing (image words ss n) x 0 (length ss) (rw rows_all at f) i (omega arith) (omega arith) (tag_word ss i n h ∙ q))

-- ---- places behind a row's area come down

-- of one slot
abbrev pub lower : ℕ → ℕ → Slot → Slot
lower at n s = record { about = s.about; at = low at n s.at; held = s.held }

-- and of each
unfoldable pub lowered : ℕ → ℕ → List Slot → List Slot
lowered at n [] = []
lowered at n (s ∷ ss) = lower at n s ∷ lowered at n ss

-- they stay as many
pub length-lowered : (at n : ℕ) (ss : List Slot) → length (lowered at n ss) ≡ length ss
unfolding lowered
length-lowered at n [] = refl
length-lowered at n (s ∷ ss) = ap suc (length-lowered at n ss)

-- one list of slots after another
lowered-append : (at n : ℕ) (a b : List Slot) → lowered at n (a ++ b) ≡ lowered at n a ++ lowered at n b
unfolding lowered
lowered-append at n [] b = refl
lowered-append at n (s ∷ a) b = ap (λ (r : List Slot). lower at n s ∷ r) (lowered-append at n a b)

-- the words of the first k rows, when their places have come down
sunk-part : (at n : ℕ) (ss : List Slot) (len k : ℕ) → k ≤ length ss → sunk at n (image words ss len) k ≡ image words (lowered at n (take k ss) ++ drop k ss) len
unfolding sunk lowered words
sunk-part at n ss len zero h = refl
sunk-part at n ss len (suc k) h =
    let a : Slot = get_or ss k empty in
    let p : List Slot = lowered at n (take k ss) in
    let r : List Slot = drop (suc k) ss in
    let lp : length p ≡ k = length-lowered at n (take k ss) ∙ length-take-le k ss (omega arith) in
    let e : p ++ drop k ss ≡ p ++ a ∷ r = ap (λ (x : List Slot). p ++ x) (drop-cons ss k empty (omega arith)) in
    let ih : sunk at n (image words ss len) k ≡ image words (p ++ a ∷ r) len = sunk-part at n ss len k (omega arith) ∙ ap (λ (x : List Slot). image words x len) e in
    let ll : length (p ++ a ∷ r) ≡ k + suc (length r) = length-append p (a ∷ r) ∙ ap (λ (x : ℕ). x + suc (length r)) lp in
    let hk : k < length (p ++ a ∷ r) = omega arith in
    let g : get_or (p ++ a ∷ r) k empty ≡ a = get_or_at p a r empty k lp in
    let w : get_or (image words (p ++ a ∷ r) len) (k * 8 + 1) 0 ≡ a.at = word (p ++ a ∷ r) k len 1 (k * 8 + 1) hk refl (omega arith) ∙ ap (λ (s : Slot). s.at) g in
    let t : lowered at n (take (suc k) ss) ++ r ≡ p ++ lower at n a ∷ r =
    ap (λ (x : List Slot). lowered at n x ++ r) (take-suc ss k empty (omega arith))
    ∙ ap (λ (x : List Slot). x ++ r) (lowered-append at n (take k ss) (a ∷ []))
    ∙ append_assoc p (lower at n a ∷ []) r in
    rw (ih, w, t)
    (Images.image-store empty words (p ++ a ∷ r) k len (k * 8) 1 (k * 8 + 1) (low at n a.at) (lower at n a) hk
    (row_at (p ++ a ∷ r) k (k * 8) (omega arith) refl) refl (omega arith) (rw g)
    ∙ ap (λ (x : List Slot). image words x len) (set_at p a r (lower at n a) k lp))

-- the words of all rows
pub sunk-is : (at n : ℕ) (ss : List Slot) (len k : ℕ) → k ≡ length ss → sunk at n (image words ss len) k ≡ image words (lowered at n ss) len
sunk-is at n ss len k h =
    sunk-part at n ss len k (omega arith)
    ∙ rw (h, take_all (length ss) ss (omega arith), drop-length ss, append-nil)

-- no row, as a loop starts
pub sunk-none : (at n : ℕ) (t : List ℕ) → t ≡ sunk at n t 0
unfolding sunk
sunk-none at n t = refl

-- one row more, as a loop turns
pub sunk-more : (at n : ℕ) (t : List ℕ) (k k' : ℕ) → k' ≡ suc k
    → set (sunk at n t k) (k * 8 + 1) (low at n (get_or (sunk at n t k) (k * 8 + 1) 0)) ≡ sunk at n t k'
unfolding sunk
sunk-more at n t k k' e = rw e

-- ---- a row goes

-- one slot less
pub length-remove : (ss : List Slot) (i : ℕ) → i < length ss → length (remove ss i) + 1 ≡ length ss
unfolding remove
length-remove ss i h =
    omega (arith, length-append (take i ss) (drop (suc i) ss), length-take-le i ss (omega arith), length-drop (suc i) ss)

-- what is left is the image of the other slots, with their areas in their new places
pub slot-removed : (ss : List Slot) (i k n : ℕ) → k ≡ length ss → i < length ss → length ss * 8 ≤ n
    → removed (image words ss n) k i ≡ image words (lowered (get_or ss i empty).at (get_or ss i empty).about.size (remove ss i)) n
unfolding removed
slot-removed ss i k n e h l =
    let a : i < k = omega arith in
    let b : k * 8 ≤ length (image words ss n) = omega (arith, length-table ss n l) in
    let c : closed (image words ss n) (i * 8) 8 (k * 8) ≡ image words (remove ss i) n =
    Images.image-closed empty words ss i n (i * 8) 8 (k * 8) h (row_at ss i (i * 8) (omega arith) refl) (sym (length-row (get_or ss i empty)))
    (omega (arith, length-words ss)) (omega (arith, length-words ss)) in
    rw (lt-ltb i k a, le-leb (k * 8) (length (image words ss n)) b, slot-in ss i n h, c)
    (sunk-is (get_or ss i empty).at (get_or ss i empty).about.size (remove ss i) n (k - 1) (omega (arith, length-remove ss i h)))

-- no such row: nothing changes
pub removed-none : (t : List ℕ) (count i : ℕ) → count ≤ i → removed t count i ≡ t
unfolding removed
removed-none t count i h = rw (le-ltb i count h)

-- more rows than the table has: nothing changes
pub removed-short : (t : List ℕ) (count i : ℕ) → i < count → length t < count * 8 → removed t count i ≡ t
unfolding removed
removed-short t count i h l = rw (lt-ltb i count h, lt-leb (count * 8) (length t) l)

-- the row's slot is read, the rows behind it move up, the empty slot comes last, and the areas behind start earlier
pub removed-steps : (t x y w : List ℕ) (q r : Slot) (count i : ℕ) → i < count → count * 8 ≤ length t → q ≡ slot_at t i
    → x ≡ sets t (i * 8) (take ((count - 1) * 8 - i * 8) (drop (i * 8 + 8) t)) → r ≡ empty → y ≡ laid x ((count - 1) * 8) (words r)
    → w ≡ sunk q.at q.about.size y (count - 1) → w ≡ removed t count i
unfolding removed
removed-steps t x y w q r count i h l eq ex er ey ew =
    let last : ℕ = (count - 1) * 8 in
    let lx : length x ≡ length t = ap length ex ∙ length-sets t (i * 8) (take (last - i * 8) (drop (i * 8 + 8) t)) in
    let es : q ≡ slot_in t (i * 8) = eq ∙ slot-there t i (omega arith) in
    let z : words r ≡ replicate 8 0 = ap words er ∙ words-empty in
    let e : y ≡ closed t (i * 8) 8 (count * 8) =
    ey ∙ put-there x r last (omega arith) ∙ ap (sets x last) z
    ∙ close-sets t x (i * 8) 8 (i * 8 + 8) (last - i * 8) last (count * 8) ex refl (omega arith) (omega arith) l in
    rw (lt-ltb i count h, le-leb (count * 8) (length t) l, ← e, ← es) ew
