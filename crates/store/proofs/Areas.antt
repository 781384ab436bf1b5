-- The areas in the memory: how long they are together, and what other contents, a tag less and a tag more leave.
use Prim.Native.Nat.{ℕ, zero, suc, ◌+◌, ◌-◌, ◌≤◌, ◌<◌}
use mathlib.Core.Path.{◌≡◌, refl, sym, ap, ◌∙◌}
use mathlib.Core.List.{List, [], ◌∷◌, ◌++◌, append_assoc, flat_map}
use native.Mathlib.Omega.{arith}
use native.Mathlib.Nat.{sub-zero}
use lib.ListN.{length, take, drop, get_or, set, replicate, length-append, length-replicate, take-append-drop, replicate-append-replicate}
use lib.Seq.{sets, drop-append-add, length-take-le, take_at}
use Rattle.admission.specs.declared.Limits.{Limits}
use Rattle.rows.specs.Image.{image, closed}
use Rattle.rows.proofs.Images
use Rattle.rows.proofs.Places.{remove, sets-mid, sets-sets}
use Rattle.store.specs.Model.{Tag, total, area, Proper, Each}
use Rattle.store.specs.Steps.{written}
use Rattle.store.proofs.Valid.{none, each_at, each_take}

-- ---- one area

pub length-area : (t : Tag) → length t.held ≤ t.about.size → length (area t) ≡ t.about.size
unfolding area
length-area t h =
    omega (arith, length-append t.held (replicate (t.about.size - length t.held) 0), length-replicate {A = ℕ} (t.about.size - length t.held) 0)

-- an area starts with what it holds
pub area-held : (t : Tag) (n : ℕ) → n ≡ length t.held → (q : List ℕ) → take n (area t ++ q) ≡ t.held
unfolding area
area-held t n e q =
    ap (take n) (append_assoc t.held (replicate (t.about.size - length t.held) 0) q)
    ∙ take_at t.held (replicate (t.about.size - length t.held) 0 ++ q) n (sym e)

drop-zeros : (r n : ℕ) → drop r (replicate {A = ℕ} n 0) ≡ replicate (n - r) 0
drop-zeros zero n = ap (λ (k : ℕ). replicate {A = ℕ} k 0) (sym (sub-zero n))
drop-zeros (suc r) zero = let e : 0 ≡ 0 - suc r = omega arith in ap (λ (k : ℕ). replicate {A = ℕ} k 0) e
drop-zeros (suc r) (suc n) = let e : n - r ≡ suc n - suc r = omega arith in drop-zeros r n ∙ ap (λ (k : ℕ). replicate {A = ℕ} k 0) e

-- other contents over the start of an area, and zeros up to the end of what was held, leave the area of the tag with those contents
refilled : (t : Tag) (xs p q : List ℕ) (at k : ℕ) → length p ≡ at → length t.held ≤ t.about.size → length xs ≤ t.about.size
    → k ≡ length t.held - length xs → sets (p ++ (area t ++ q)) at (xs ++ replicate k 0) ≡ p ++ (area (written xs t) ++ q)
unfolding area
refilled t xs p q at k ep h hx ek =
    let size : ℕ = t.about.size in
    let old : List ℕ = t.held in
    let w : List ℕ = xs ++ replicate k 0 in
    let z : ℕ = size - length old in
    let full : List ℕ = old ++ replicate z 0 in
    let lw : length w ≡ length xs + k = length-append xs (replicate k 0) ∙ ap (λ (i : ℕ). length xs + i) (length-replicate {A = ℕ} k 0) in
    let lf : length full ≡ size = omega (arith, length-append old (replicate z 0), length-replicate {A = ℕ} z 0) in
    let r : ℕ = length xs + k - length old in
    let ew : length w ≡ length old + r = omega arith in
    let d : drop (length w) full ≡ replicate (z - r) 0 =
    ap (λ (i : ℕ). drop i full) ew ∙ drop-append-add old (replicate z 0) r ∙ drop-zeros r z in
    let lt : length (take (length w) full) ≡ length w = length-take-le (length w) full (omega arith) in
    let cut : full ++ q ≡ take (length w) full ++ (drop (length w) full ++ q) =
    ap (λ (l : List ℕ). l ++ q) (sym (take-append-drop (length w) full)) ∙ append_assoc (take (length w) full) (drop (length w) full) q in
    let ez : k + (z - r) ≡ size - length xs = omega arith in
    let e : w ++ replicate (z - r) 0 ≡ xs ++ replicate (size - length xs) 0 =
    append_assoc xs (replicate k 0) (replicate (z - r) 0)
    ∙ ap (λ (l : List ℕ). xs ++ l) (replicate-append-replicate {A = ℕ} k (z - r) 0 ∙ ap (λ (i : ℕ). replicate {A = ℕ} i 0) ez) in
    ap (λ (l : List ℕ). sets (p ++ l) at w) cut
    ∙ sets-mid p (take (length w) full) (drop (length w) full ++ q) w at ep lt
    ∙ ap (λ (l : List ℕ). p ++ (w ++ (l ++ q))) d
    ∙ ap (λ (l : List ℕ). p ++ l) (sym (append_assoc w (replicate (z - r) 0) q) ∙ ap (λ (l : List ℕ). l ++ q) e)

-- ---- all areas

module _ (l : Limits) where
  -- the areas are as long as their sizes together
  pub length-areas : (m : List Tag) → Each (Proper l) m → length (flat_map area m) ≡ total m
  unfolding total flat_map Each
  length-areas [] p = refl
  length-areas (t ∷ m) p = omega (arith, length-append (area t) (flat_map area m), length-area t p.0.fits, length-areas m p.1)

  -- an area starts behind those before it
  pub area-starts : (m : List Tag) (j at : ℕ) → Each (Proper l) m → at ≡ total (take j m) → at ≡ length (flat_map area (take j m))
  area-starts m j at p e = e ∙ sym (length-areas (take j m) (each_take (Proper l) j m p))

  -- other contents of the tag at place j
  pub memory-refilled : (m : List Tag) (j n at k i : ℕ) (xs : List ℕ) → j < length m → Each (Proper l) m → at ≡ total (take j m)
      → length xs ≤ (get_or m j none).about.size → k ≡ length (get_or m j none).held - length xs → i ≡ at + length xs
      → sets (sets (image area m n) at xs) i (replicate k 0) ≡ image area (set m j (written xs (get_or m j none))) n
  memory-refilled m j n at k i xs h p ea hx ek ei =
      let t : Tag = get_or m j none in
      let ft : length t.held ≤ t.about.size = (each_at (Proper l) m j h p).fits in
      let q : List ℕ = flat_map area (drop (suc j) m) ++ replicate (n - length (flat_map area m)) 0 in
      let e : length (area (written xs t)) ≡ length (area t) = length-area (written xs t) hx ∙ sym (length-area t ft) in
      sets-sets (image area m n) xs (replicate k 0) at i ei
      ∙ ap (λ (d : List ℕ). sets d at (xs ++ replicate k 0)) (Images.image-around none area m j n h)
      ∙ refilled t xs (flat_map area (take j m)) q at k (sym (area-starts m j at p ea)) ft hx ek
      ∙ sym (Images.image-set none area m j n (written xs t) h e)

  -- without the tag at place j
  pub memory-closed : (m : List Tag) (j n at k end : ℕ) → j < length m → Each (Proper l) m → at ≡ total (take j m) → k ≡ (get_or m j none).about.size
      → end ≡ total m → total m ≤ n → closed (image area m n) at k end ≡ image area (remove m j) n
  memory-closed m j n at k end h p ea ek ee hn =
      let le : length (flat_map area m) ≡ total m = length-areas m p in
      Images.image-closed none area m j n at k end h (area-starts m j at p ea) (ek ∙ sym (length-area (get_or m j none) (each_at (Proper l) m j h p).fits))
      (ee ∙ sym le) (omega arith)

  -- with one more, which holds nothing: its area is zero already
  pub memory-blank : (m : List Tag) (t : Tag) (n : ℕ) → Each (Proper l) m → t.held ≡ [] → total m + t.about.size ≤ n
      → image area m n ≡ image area (m ++ t ∷ []) n
  unfolding area
  memory-blank m t n p e h =
      let a : area t ≡ replicate t.about.size 0 =
      ap (λ (x : List ℕ). x ++ replicate (t.about.size - length x) 0) e ∙ ap (λ (k : ℕ). replicate {A = ℕ} k 0) (sub-zero t.about.size) in
      Images.image-zeros area m t n t.about.size a (omega (arith, length-areas m p))
