-- What head, table and memory that stand for a unit tell of it, and what they stand for after each operation. Nothing here knows the order of the table.
use Rattle.std.specs.Prelude.{Option, Some, None}
use Prim.Native.Nat.{ℕ, suc, ◌+◌, ◌-◌, ◌*◌, ◌≤◌, ◌<◌}
use mathlib.Core.Path.{◌≡◌, refl, sym, ap, ◌∙◌}
use mathlib.Core.List.{List, [], ◌∷◌, ◌++◌, flat_map}
use native.Mathlib.Omega.{arith}
use lib.ListN.{length, take, drop, get_or, set, replicate, length-append}
use lib.Seq.{sets, take_at, drop_at, set_at, get_or_at}
use Rattle.octets.specs.Number.{bare}
use Rattle.octets.specs.Area.{laid}
use Rattle.octets.specs.declared.Access.{Access}
use Rattle.octets.specs.declared.Port.{Port}
use Rattle.admission.specs.Admission.{admission}
use Rattle.admission.specs.Want.{Known as Knowledge, Want}
use Rattle.admission.specs.declared.Head.{Head}
use Rattle.rows.specs.Image.{image, closed}
use Rattle.rows.specs.Keyed.{nowhere, here, look, change, without}
use Rattle.rows.specs.Row.{empty, slot_tag, words, slot_at, with_held, rows_in, scan, removed}
use Rattle.rows.specs.declared.Slot.{Slot}
use Rattle.rows.proofs.Places.{remove}
use Rattle.rows.proofs.Keys
use Rattle.rows.proofs.Images
use Rattle.rows.proofs.Rows.{lowered}
use Rattle.rows.proofs.Rows
use Rattle.store.specs.Model.{Tag, State, tag_id, total, holding, head_of, area, slot_of, arranged, Proper, Each, Valid, Shows}
use Rattle.store.specs.Steps.{registered, known_of, verdict, written}
use Rattle.store.specs.Raw.{row_of, known_at, overwritten, head_with}
use Rattle.store.proofs.Areas
use Rattle.store.proofs.Located
use Rattle.store.proofs.Valid.{none}
use Rattle.store.proofs.Valid

-- the head with one tag less
abbrev pub head_without : Head → ℕ → Head
head_without h n = record {
  limits = h.limits;
  version = h.version;
  allocation = h.allocation;
  passwords = h.passwords;
  count = h.count - 1;
  used = h.used - n;
}

-- the tag that a slot is of, found by its number
pub record Known (m : List Tag) (q : Slot) : Type 0 where
  pub j : ℕ
  pub low : j < length m
  pub is : q ≡ slot_of (total (take j m)) (get_or m j none)
  pub looked : look tag_id (slot_tag q) m ≡ here (get_or m j none)

-- the head of a unit, by its two numbers
abbrev head_at : State → ℕ → ℕ → Head
head_at u c d = record { limits = u.limits; version = u.version; allocation = u.allocation; passwords = u.passwords; count = c; used = d }

head-is : (u : State) (m : List Tag) (c d : ℕ) → c ≡ length m → d ≡ total m → head_at u c d ≡ head_of (holding u m)
head-is u m c d e f = ap (λ (k : ℕ). head_at u k d) e ∙ ap (head_at u (length m)) f

module _ (u : State) (h : Head) (table pool : List ℕ) (s : Shows u h table pool) where
  -- the head's numbers are the unit's
  pub count-is : h.count ≡ length u.tags
  count-is = ap (λ (x : Head). x.count) s.head

  pub used-is : h.used ≡ total u.tags
  used-is = ap (λ (x : Head). x.used) s.head

  -- the table has a row for every tag, and the memory all of its octets
  rows_fit : length (arranged u.tags) * 8 ≤ u.limits.tags * 8
  rows_fit = omega (arith, Located.length-arranged u.tags, s.valid.few)

  pub pool-long : length pool ≡ u.limits.memory
  pool-long =
      ap length s.octets
      ∙ Images.length-image area u.tags u.limits.memory (omega (arith, Areas.length-areas u.limits u.tags s.valid.proper, s.valid.room))

  pub used-there : h.used ≤ length pool
  used-there = omega (arith, used-is, pool-long, s.valid.room)

  -- ---- a row

  pub in_order : (i : ℕ) → i < h.count → i < length (arranged u.tags)
  in_order i l = omega (arith, Located.length-arranged u.tags, count-is)

  pub slot_is : (i : ℕ) → i < h.count → slot_at table i ≡ get_or (arranged u.tags) i empty
  slot_is i l = ap (λ (t : List ℕ). slot_at t i) s.rows ∙ Rows.slot-load (arranged u.tags) i (u.limits.tags * 8) (in_order i l) rows_fit

  pub known : (i : ℕ) → i < h.count → Known u.tags (slot_at table i)
  known i l =
      let p = Located.place u.tags i (omega (arith, count-is)) in
      let w : slot_at table i ≡ slot_of (total (take p.j u.tags)) (get_or u.tags p.j none) = slot_is i l ∙ p.is in
      record {
        j = p.j;
        low = p.low;
        is = w;
        looked = Keys.look_at tag_id none (slot_tag (slot_at table i)) u.tags p.j p.low s.valid.apart (sym (ap slot_tag w));
      }

  -- an area lies within what is in use, and its data within it
  pub within-used : (i : ℕ) → i < h.count → (slot_at table i).at + (slot_at table i).about.size ≤ h.used
  within-used i l =
      let k = known i l in
      omega (arith, ap (λ (q : Slot). q.at) k.is, ap (λ (q : Slot). q.about.size) k.is, Valid.total-split u.tags k.j k.low, used-is)

  -- so does the area of the slot that a row has, and what is in use lies within the memory
  pub area-there : (i : ℕ) (q : Slot) → i < h.count → q ≡ slot_at table i → (q.at + q.about.size ≤ h.used) × (h.used ≤ length pool)
  area-there i q l e = rw e (within-used i l, used-there)

  pub held_fits : (i : ℕ) → i < h.count → (slot_at table i).held ≤ (slot_at table i).about.size
  held_fits i l =
      let k = known i l in
      let p = Valid.each_at (Proper u.limits) u.tags k.j k.low s.valid.proper in
      omega (arith, ap (λ (q : Slot). q.held) k.is, ap (λ (q : Slot). q.about.size) k.is, p.fits)

  pub size_small : (i : ℕ) → i < h.count → (slot_at table i).about.size ≤ u.limits.area
  size_small i l =
      let k = known i l in
      let p = Valid.each_at (Proper u.limits) u.tags k.j k.low s.valid.proper in
      omega (arith, ap (λ (q : Slot). q.about.size) k.is, p.small)

  -- the octets of the memory that a row points at are the tag's data
  pub data-there : (i : ℕ) (l : i < h.count) → take (slot_at table i).held (drop (slot_at table i).at pool) ≡ (get_or u.tags (known i l).j none).held
  data-there i l =
      let k = known i l in
      let m : List Tag = u.tags in
      let n : ℕ = u.limits.memory in
      let t : Tag = get_or m k.j none in
      let q : List ℕ = flat_map area (drop (suc k.j) m) ++ replicate (n - length (flat_map area m)) 0 in
      let ea : (slot_at table i).at ≡ total (take k.j m) = ap (λ (r : Slot). r.at) k.is in
      let eh : (slot_at table i).held ≡ length t.held = ap (λ (r : Slot). r.held) k.is in
      let a : pool ≡ flat_map area (take k.j m) ++ (area t ++ q) = s.octets ∙ Images.image-around none area m k.j n k.low in
      let d : drop (slot_at table i).at pool ≡ area t ++ q =
      ap (drop (slot_at table i).at) a
      ∙ drop_at (flat_map area (take k.j m)) (area t ++ q) (slot_at table i).at (sym (Areas.area-starts u.limits m k.j (slot_at table i).at s.valid.proper ea)) in
      ap (take (slot_at table i).held) d ∙ Areas.area-held t (slot_at table i).held eh q

  -- ---- the row of a tag

  module _ (x : ℕ) where
    in_image : (f : Option ℕ) → row_of h table x ≡ f
        → scan (image words (arranged u.tags) (u.limits.tags * 8)) (bare x) 0 (rows_in (image words (arranged u.tags) (u.limits.tags * 8)) h.count) ≡ f
    in_image f e = ap (λ (t : List ℕ). scan t (bare x) 0 (rows_in t h.count)) (sym s.rows) ∙ e

    counted : h.count ≡ length (arranged u.tags)
    counted = count-is ∙ sym (Located.length-arranged u.tags)

    -- a row that is found is one of those in use, and its tag is the one looked for
    pub row-found : (i : ℕ) → row_of h table x ≡ Some i → (i < h.count) × (slot_tag (slot_at table i) ≡ bare x)
    row-found i e =
        let f = Rows.row-found (arranged u.tags) (bare x) h.count (u.limits.tags * 8) counted rows_fit i (in_image (Some i) e) in
        let l : i < h.count = omega (arith, f.0, counted) in
        (l, ap slot_tag (slot_is i l) ∙ f.1)

    pub found-tag : (i : ℕ) (e : row_of h table x ≡ Some i) → registered u x ≡ here (get_or u.tags (known i (row-found i e).0).j none)
    unfolding registered
    found-tag i e =
        let f = row-found i e in
        ap (λ (y : ℕ). look tag_id y u.tags) (sym f.1) ∙ (known i f.0).looked

    pub not_found : row_of h table x ≡ None → registered u x ≡ nowhere
    unfolding registered
    not_found e =
        Located.arranged-none u.tags (bare x)
        (Rows.row-missing (arranged u.tags) (bare x) h.count (u.limits.tags * 8) counted rows_fit (in_image None e))

    -- what the row tells of the tag is what the unit knows of it
    pub known_is : known_at table (row_of h table x) ≡ known_of (registered u x)
    known_is = go (row_of h table x) refl
      where
        go : (f : Option ℕ) → row_of h table x ≡ f → known_at table f ≡ known_of (registered u x)
        go (Some i) e =
            let k = known i (row-found i e).0 in
            ap (λ (q : Slot). Knowledge.Tag q.about) k.is ∙ sym (ap known_of (found-tag i e))
        go None e = sym (ap known_of (not_found e))

    -- and so is the verdict
    pub verdict-is : (w : Want) (p : Port) (a : Access) → admission h (known_at table (row_of h table x)) w p a ≡ verdict u x w p a
    verdict-is w p a =
        ap (λ (k : Knowledge). admission h k w p a) known_is ∙ ap (λ (g : Head). admission g (known_of (registered u x)) w p a) s.head

  -- ---- what the operations leave

  -- other contents of the tag in a row
  pub put-shows : (i : ℕ) (xs table' pool' : List ℕ) → i < h.count → length xs ≤ (slot_at table i).about.size
      → table' ≡ with_held table i (length xs) → pool' ≡ overwritten pool (slot_at table i).at (slot_at table i).held xs
      → Shows (holding u (change tag_id (slot_tag (slot_at table i)) (written xs) u.tags)) h table' pool'
  unfolding overwritten
  put-shows i xs table' pool' l hx et ep =
      let w = known i l in
      let m : List Tag = u.tags in
      let x : ℕ = slot_tag (slot_at table i) in
      let t : Tag = get_or m w.j none in
      let ex : tag_id t ≡ x = sym (ap slot_tag w.is) in
      let ez : (slot_at table i).about.size ≡ t.about.size = ap (λ (r : Slot). r.about.size) w.is in
      let eh : (slot_at table i).held ≡ length t.held = ap (λ (r : Slot). r.held) w.is in
      let ea : (slot_at table i).at ≡ total (take w.j m) = ap (λ (r : Slot). r.at) w.is in
      let cm : set m w.j (written xs t) ≡ change tag_id x (written xs) m = Keys.set-change tag_id none x (written xs) m w.j w.low s.valid.apart ex in
      let es : slot_at table i ≡ get_or (arranged m) i empty = slot_is i l in
      let n : ℕ = (slot_at table i).at + length xs in
      let k : ℕ = (slot_at table i).held - length xs in
      let ca : set (arranged m) i (Located.refilled (length xs) (get_or (arranged m) i empty)) ≡ arranged (change tag_id x (written xs) m) =
      Keys.set-change slot_tag empty x (Located.refilled (length xs)) (arranged m) i (in_order i l) (Located.apart-arranged m s.valid.apart) (ap slot_tag (sym es))
      ∙ sym (Located.arranged-change m x xs) in
      let v = Valid.change-valid u s.valid x xs t w.looked (omega arith) in
      record {
        head = s.head ∙ head-is u (change tag_id x (written xs) m) (length m) (total m) (sym (Valid.length-change x (written xs) m)) (sym (Valid.total-change x (written xs) (λ r. refl) m));
        rows = et ∙ ap (λ (r : List ℕ). with_held r i (length xs)) s.rows
            ∙ Rows.held-store (arranged m) i (length xs) (u.limits.tags * 8) (in_order i l) rows_fit
            ∙ ap (λ (r : List Slot). image words r (u.limits.tags * 8)) ca;
        octets = ep ∙ ap (λ (r : List ℕ). sets (sets r (slot_at table i).at xs) n (replicate k 0)) s.octets
            ∙ Areas.memory-refilled u.limits m w.j u.limits.memory (slot_at table i).at k n xs w.low s.valid.proper ea (omega arith) (omega arith) refl
            ∙ ap (λ (r : List Tag). image area r u.limits.memory) cm;
        valid = v;
      }

  -- without the tag in a row
  pub remove-shows : (i : ℕ) (h' : Head) (table' pool' : List ℕ) → i < h.count → h' ≡ head_without h (slot_at table i).about.size
      → table' ≡ removed table h.count i → pool' ≡ closed pool (slot_at table i).at (slot_at table i).about.size h.used
      → Shows (holding u (without tag_id (slot_tag (slot_at table i)) u.tags)) h' table' pool'
  remove-shows i h' table' pool' l eh et ep =
      let w = known i l in
      let m : List Tag = u.tags in
      let x : ℕ = slot_tag (slot_at table i) in
      let t : Tag = get_or m w.j none in
      let n : ℕ = (slot_at table i).about.size in
      let ex : tag_id t ≡ x = sym (ap slot_tag w.is) in
      let ez : n ≡ t.about.size = ap (λ (r : Slot). r.about.size) w.is in
      let ea : (slot_at table i).at ≡ total (take w.j m) = ap (λ (r : Slot). r.at) w.is in
      let es : slot_at table i ≡ get_or (arranged m) i empty = slot_is i l in
      let cm : remove m w.j ≡ without tag_id x m = Keys.remove-without tag_id none x m w.j w.low s.valid.apart ex in
      let ca : lowered (get_or (arranged m) i empty).at (get_or (arranged m) i empty).about.size (remove (arranged m) i) ≡ arranged (without tag_id x m) =
      ap (lowered (get_or (arranged m) i empty).at (get_or (arranged m) i empty).about.size)
      (Keys.remove-without slot_tag empty x (arranged m) i (in_order i l) (Located.apart-arranged m s.valid.apart) (ap slot_tag (sym es)))
      ∙ ap (λ (r : Slot). lowered r.at r.about.size (without slot_tag x (arranged m))) (sym es ∙ w.is)
      ∙ sym (Located.arranged-without m x w.j s.valid.apart w.low ex) in
      let lw : suc (length (without tag_id x m)) ≡ length m = Valid.length_without x m t s.valid.apart w.looked in
      let tw : total (without tag_id x m) + t.about.size ≡ total m = Valid.total-without x m t s.valid.apart w.looked in
      record {
        head = eh ∙ ap (λ (g : Head). head_without g n) s.head ∙ head-is u (without tag_id x m) (length m - 1) (total m - n) (omega arith) (omega arith);
        rows = et ∙ ap (λ (r : List ℕ). removed r h.count i) s.rows
            ∙ Rows.slot-removed (arranged m) i h.count (u.limits.tags * 8) (count-is ∙ sym (Located.length-arranged m)) (in_order i l) rows_fit
            ∙ ap (λ (r : List Slot). image words r (u.limits.tags * 8)) ca;
        octets = ep ∙ ap (λ (r : List ℕ). closed r (slot_at table i).at n h.used) s.octets
            ∙ Areas.memory-closed u.limits m w.j u.limits.memory (slot_at table i).at n h.used w.low s.valid.proper ea ez used-is s.valid.room
            ∙ ap (λ (r : List Tag). image area r u.limits.memory) cm;
        valid = Valid.without-valid u s.valid x;
      }

  -- with a tag more, of which nothing is held or which has first data
  pub more-shows : (t : Tag) (h' : Head) (table' pool' : List ℕ) → Valid (holding u (u.tags ++ t ∷ [])) → h' ≡ head_with h t.about.size
      → table' ≡ laid table (h.count * 8) (words (slot_of h.used t)) → pool' ≡ sets pool h.used t.held
      → Shows (holding u (u.tags ++ t ∷ [])) h' table' pool'
  more-shows t h' table' pool' v eh et ep =
      let m : List Tag = u.tags in
      let blank : Tag = record { about = t.about; held = [] } in
      let n : ℕ = u.limits.memory in
      let lm : length (m ++ t ∷ []) ≡ length m + 1 = length-append m (t ∷ []) in
      let ta : total (m ++ t ∷ []) ≡ total m + t.about.size = Valid.total-add m t in
      let gt : get_or (m ++ t ∷ []) (length m) none ≡ t = get_or_at m t [] none (length m) refl in
      let pt : Proper u.limits t = rw gt at (Valid.each_at (Proper u.limits) (m ++ t ∷ []) (length m) (omega arith) v.proper) in
      let pb : Each (Proper u.limits) (m ++ blank ∷ []) =
      Valid.each-add (Proper u.limits) m blank s.valid.proper (record { bits = pt.bits; some = pt.some; small = pt.small; fits = omega arith }) in
      let lb : length m < length (m ++ blank ∷ []) = omega (arith, length-append m (blank ∷ [])) in
      let gb : get_or (m ++ blank ∷ []) (length m) none ≡ blank = get_or_at m blank [] none (length m) refl in
      let kb : take (length m) (m ++ blank ∷ []) ≡ m = take_at m (blank ∷ []) (length m) refl in
      let b : pool ≡ image area (m ++ blank ∷ []) n = s.octets ∙ Areas.memory-blank u.limits m blank n s.valid.proper refl (omega (arith, v.room)) in
      record {
        head = eh ∙ ap (λ (g : Head). head_with g t.about.size) s.head ∙ head-is u (m ++ t ∷ []) (length m + 1) (total m + t.about.size) (sym lm) (sym ta);
        rows = et ∙ ap (λ (r : List ℕ). laid r (h.count * 8) (words (slot_of h.used t))) s.rows
            ∙ Rows.slot-add (arranged m) (slot_of h.used t) h.count (u.limits.tags * 8) (count-is ∙ sym (Located.length-arranged m)) (omega (arith, v.few, count-is))
            ∙ ap (λ (r : List Slot). image words r (u.limits.tags * 8)) (sym (Located.arranged-add m (slot_of h.used t) t (ap (λ (k : ℕ). slot_of k t) used-is)));
        octets = ep ∙ ap (λ (r : List ℕ). sets r h.used t.held) b
            ∙ Areas.memory-refilled u.limits (m ++ blank ∷ []) (length m) n h.used 0 (h.used + length t.held) t.held lb pb
            (used-is ∙ ap total (sym kb)) (rw gb pt.fits) (rw gb (omega arith)) refl
            ∙ ap (λ (r : List Tag). image area r n) (ap (λ (y : Tag). set (m ++ blank ∷ []) (length m) (written t.held y)) gb ∙ set_at m blank [] t (length m) refl);
        valid = v;
      }
