-- Laws of writing into a lent area: field by field, and a message behind its opening.
use Prim.Native.Nat.{ℕ, ◌+◌, ◌*◌, ◌<◌, ◌≤◌}
use mathlib.Core.Path.{◌≡◌, refl, sym, ap, ◌∙◌}
use mathlib.Core.Bool.{Bool, true, false, ◌&&◌, cond}
use mathlib.Core.List.{List, [], ◌∷◌, ◌++◌}
use native.Mathlib.Omega.{arith}
use native.Mathlib.Nat.{zero-add, add-zero}
use lib.ListN.{length, drop, length-append, take}
use lib.Seq.{sets, sets-eq, length-sets, take_at}
use lib.Dec.{ltb, leb}
use borrow.Author.Tests.{lt-ltb, le-ltb, le-leb, lt-leb, ltb-true, ltb-false}
use Rattle.octets.specs.Length.{encode_length}
use Rattle.octets.specs.Area.{laid, past, Laid, Wrote, Outcome, done, refused, written, Does}
use Rattle.octets.specs.Layout.{Layout, field_octets, size}
use Rattle.octets.specs.Frame.{opening, openable, opened, framed, sent}
use Rattle.std.specs.Prelude.{Ok, Err}
use Rattle.octets.specs.declared.Unwritten.TheVariants.{Refused, NoRoom}
use Rattle.octets.proofs.Places.{pick_same}
use Rattle.octets.proofs.Lengths.{encode-short, encode-long, length-octets-are}
use Rattle.octets.proofs.Numbers.{sets-append}

-- ---- a field is laid whole or not at all

module _ (old : List ℕ) (at : ℕ) (v : List ℕ) where
  -- with room, they stand there and the next field starts behind them
  pub laid-all : {new : List ℕ} {next : ℕ} → at + length v ≤ length old → new ≡ sets old at v → next ≡ at + length v → Laid old at v new next
  unfolding laid past
  laid-all h e n = record { holds = rw (le-leb _ _ h) e; ends = rw (le-leb _ _ h) n }

  -- without room, nothing changes
  pub laid-not : length old < at + length v → Laid old at v old at
  unfolding laid past
  laid-not h = record { holds = rw (lt-leb _ _ h); ends = rw (lt-leb _ _ h) }

  -- what a laid field left in an area with room
  pub laid-holds : {new : List ℕ} {next : ℕ} → at + length v ≤ length old → Laid old at v new next → new ≡ sets old at v
  unfolding laid
  laid-holds h l = rw (le-leb _ _ h) at l.holds

  -- and where the next field starts
  pub laid-ends : {new : List ℕ} {next : ℕ} → at + length v ≤ length old → Laid old at v new next → next ≡ at + length v
  unfolding past
  laid-ends h l = rw (le-leb _ _ h) at l.ends

-- nothing is laid anywhere
pub laid_none : (old : List ℕ) (at : ℕ) → Laid old at [] old at
unfolding laid past
laid_none old at = record { holds = sym (pick_same (leb (at + 0) (length old)) old); ends = rw (add-zero at) (sym (pick_same (leb at (length old)) at)) }

-- ---- fields one behind the other

-- before the first field
pub wrote_none : (old : List ℕ) (at : ℕ) → Wrote old at [] old at
wrote_none old at = record { holds = refl; next = sym (add-zero at) }

-- the area keeps its length
pub wrote-length : {old v x : List ℕ} {at p : ℕ} → Wrote old at v x p → length x ≡ length old
wrote-length {old} {v} {x} {at} {p} w = ap length w.holds ∙ length-sets old at v

-- the octets w behind them
pub wrote-sets : {old v x y : List ℕ} {at p q : ℕ} (w : List ℕ) → Wrote old at v x p → y ≡ sets x p w → q ≡ p + length w → Wrote old at (v ++ w) y q
wrote-sets {old} {v} {x} {y} {at} {p} {q} w h e n = record {
  holds = rw (sets-append v w old at, ← h.next, ← h.holds) e;
  next = rw (length-append v w) (omega (arith, h.next));
}

-- one field more
pub wrote-more : {old v x y : List ℕ} {at p q : ℕ} (w : List ℕ) → Wrote old at v x p → at + length v + length w ≤ length old → Laid x p w y q → Wrote old at (v ++ w) y q
wrote-more {old} {v} {x} {y} {at} {p} {q} w h k l =
    let e : length x ≡ length old = wrote-length h in
    let g : p + length w ≤ length x = omega (arith, h.next) in
    wrote-sets w h (laid-holds x p w g l) (laid-ends x p w g l)

-- ---- a message behind its opening

done-same : {a b : ℕ} → done a ≡ done b → a ≡ b
done-same e = cc

module _ (v k n : ℕ) (old new : List ℕ) where
  -- the three ways in which an opening goes, by its two tests
  abbrev ways : Bool → Bool → Outcome × List ℕ
  ways b c = cond b (cond c (refused 300, old) (done (length (opening v k n)), sets old 0 (opening v k n))) (refused 16, old)

  -- the area is too short for the message
  abbrev lacks : Bool
  lacks = ltb (length old) (length (opening v k n) + n)

  -- what each answer of open_message means: the message may be written and has room, and its opening stands at the front
  pub open_done : (p : ℕ) → Does (opened v k n old) (Ok p) new
      → (openable v k n ≡ true) × (length (opening v k n) + n ≤ length old) × (p ≡ length (opening v k n)) × (new ≡ sets old 0 (opening v k n))
  unfolding opened
  open_done p d = go (openable v k n) lacks refl d
    where
      go : (b c : Bool) → lacks ≡ c → Does (ways b c) (Ok p) new
          → (b ≡ true) × (length (opening v k n) + n ≤ length old) × (p ≡ length (opening v k n)) × (new ≡ sets old 0 (opening v k n))
      go true false f d = (refl, ltb-false _ _ f, done-same d.says, d.area)
      go true true f d = let x = d.says in let z : ◌≡◌ {A = ℕ} 0 1 = cc in absurd (omega arith)
      go false c f d = let x = d.says in let z : ◌≡◌ {A = ℕ} 0 1 = cc in absurd (omega arith)

  -- the message may not be written, and nothing was
  pub open-refused : Does (opened v k n old) (Err Refused) new → (openable v k n ≡ false) × (new ≡ old)
  unfolding opened
  open-refused d = go (openable v k n) lacks d
    where
      go : (b c : Bool) → Does (ways b c) (Err Refused) new → (b ≡ false) × (new ≡ old)
      go true false d = let x = d.says in let z : ◌≡◌ {A = ℕ} 0 1 = cc in absurd (omega arith)
      go true true d = let x = d.says in let z : ◌≡◌ {A = ℕ} 16 300 = cc in absurd (omega arith)
      go false c d = (refl, d.area)

  -- it may be written but has no room, and nothing was written
  pub open-short : Does (opened v k n old) (Err NoRoom) new → (openable v k n ≡ true) × (length old < length (opening v k n) + n) × (new ≡ old)
  unfolding opened
  open-short d = go (openable v k n) lacks refl d
    where
      go : (b c : Bool) → lacks ≡ c → Does (ways b c) (Err NoRoom) new → (b ≡ true) × (length old < length (opening v k n) + n) × (new ≡ old)
      go true false f d = let x = d.says in let z : ◌≡◌ {A = ℕ} 0 1 = cc in absurd (omega arith)
      go true true f d = (refl, ltb-true _ _ f, d.area)
      go false c f d = let x = d.says in let z : ◌≡◌ {A = ℕ} 16 300 = cc in absurd (omega arith)

  -- the body that was announced has room
  pub open-room : (p : ℕ) → Does (opened v k n old) (Ok p) new → p + n ≤ length new
  open-room p d =
      let o = open_done p d in
      let e : length new ≡ length old = ap length o.3 ∙ length-sets old 0 (opening v k n) in
      omega (arith, o.1, o.2)

pub length-opening : (v k n : ℕ) → length (opening v k n) ≡ 4 + length (encode_length n)
unfolding opening
length-opening v k n = omega arith

module _ (v k n : ℕ) (old : List ℕ) where
  -- by the tests that the code makes: a body over 2,042 octets makes a message over 2,048
  pub opened-version : 15 < v → Does (opened v k n old) (Err Refused) old
  unfolding opened openable
  opened-version h = rw (le-ltb v 16 h) (record { says = refl; area = refl })

  pub opened-long : 2042 < n → Does (opened v k n old) (Err Refused) old
  unfolding opened openable
  opened-long h =
      let e : length (encode_length n) ≡ 2 = ap length (encode-long n (omega arith)) in
      let g : 2048 < length (opening v k n) + n = omega (arith, length-opening v k n) in
      rw (lt-leb _ _ g) (go (ltb v 16))
    where
      go : (b : Bool) → Does (cond (b && false) (cond (ltb (length old) (length (opening v k n) + n)) (refused 300, old) (done (length (opening v k n)), sets old 0 (opening v k n))) (refused 16, old)) (Err Refused) old
      go true = record { says = refl; area = refl }
      go false = record { says = refl; area = refl }

  module _ (h : v ≤ 15) (g : n ≤ 2042) where
    -- whatever passes both tests may be written
    pub openable-all : openable v k n ≡ true
    unfolding openable
    openable-all =
        let a : v < 16 = omega arith in
        let b : length (opening v k n) + n ≤ 2048 = go (ltb n 128) refl in
        rw (lt-ltb _ _ a, le-leb _ _ b)
      where
        go : (t : Bool) → ltb n 128 ≡ t → length (opening v k n) + n ≤ 2048
        go true f = let e : length (encode_length n) ≡ 1 = ap length (encode-short n (ltb-true _ _ f)) in omega (arith, length-opening v k n, ltb-true n 128 f)
        go false f = let e : length (encode_length n) ≡ 2 = ap length (encode-long n (ltb-false _ _ f)) in omega (arith, length-opening v k n)

    pub opened-short : length old < length (opening v k n) + n → Does (opened v k n old) (Err NoRoom) old
    unfolding opened
    opened-short f = rw (openable-all, lt-ltb _ _ f) (record { says = refl; area = refl })

    pub opened-done : (p : ℕ) (new : List ℕ) → length (opening v k n) + n ≤ length old → p ≡ length (opening v k n) → new ≡ sets old 0 (opening v k n) → Does (opened v k n old) (Ok p) new
    unfolding opened
    opened-done p new f e a = rw (openable-all, le-ltb _ _ f) (record { says = ap done e; area = a })

-- the four octets of the heading and then the length are the opening
pub opening-laid : (v k n q : ℕ) (old x y : List ℕ) → n ≤ 2042 → length (opening v k n) + n ≤ length old → x ≡ sets old 0 ((v * 16) ∷ 1 ∷ k ∷ 0 ∷ []) → Laid x 4 (field_octets size n) y q
    → y ≡ sets old 0 (opening v k n)
unfolding opening
opening-laid v k n q old x y g h e l =
    let w : Wrote old 0 ((v * 16) ∷ 1 ∷ k ∷ 0 ∷ []) x 4 = record { holds = e; next = refl } in
    (wrote-more (encode_length n) w (omega arith) (rw (length-octets-are n (omega arith)) at l)).holds

-- a message that may not be written, one without room, and one that is written whole
pub written-refused : (b : Bool) (m old : List ℕ) → b ≡ false → Does (written b m old) (Err Refused) old
unfolding written
written-refused true m old e = let z : ◌≡◌ {A = ℕ} 0 1 = cc in absurd (omega arith)
written-refused false m old e = record { says = refl; area = refl }

pub written-short : (m old : List ℕ) → length old < length m → Does (written true m old) (Err NoRoom) old
unfolding written
written-short m old h = rw (lt-ltb _ _ h) (record { says = refl; area = refl })

-- a whole message with room: the octets past it keep their old content
pub written-done : (m old y : List ℕ) (q : ℕ) → length m ≤ length old → q ≡ length m → y ≡ sets old 0 m → Does (written true m old) (Ok q) y
unfolding written
written-done m old y q h e f =
    let g : y ≡ m ++ drop (length m) old = f ∙ sets-eq m old 0 (rw zero-add h) ∙ rw zero-add in
    rw (le-ltb _ _ h) (record { says = ap done e; area = g })

-- what was written stands at the front of the area, and might be written
pub written-front : (b : Bool) (m old new : List ℕ) (n : ℕ) → Does (written b m old) (Ok n) new → (b ≡ true) × (take n new ≡ m)
unfolding written
written-front false m old new n d = let x = d.says in let z : ◌≡◌ {A = ℕ} 0 1 = cc in absurd (omega arith)
written-front true m old new n d = go (ltb (length old) (length m)) d
  where
    go : (c : Bool) → Does (cond c (refused 300, old) (done (length m), m ++ drop (length m) old)) (Ok n) new → (true ≡ true) × (take n new ≡ m)
    go true d = let x = d.says in let z : ◌≡◌ {A = ℕ} 0 1 = cc in absurd (omega arith)
    go false d = (refl, ap (take n) d.area ∙ take_at m (drop (length m) old) n (sym (done-same d.says)))

module _ {A : Type 0} (L : Layout A) (v k : ℕ) (a : A) (old : List ℕ) where
  -- a value that its field cannot hold
  pub sent-unfit : L.fits a ≡ false → Does (sent L v k a old) (Err Refused) old
  unfolding sent written
  sent-unfit h = go (openable v k (length (L.put a)))
    where
      go : (b : Bool) → Does (written (b && L.fits a) (framed v k (L.put a)) old) (Err Refused) old
      go true = rw h (record { says = refl; area = refl })
      go false = record { says = refl; area = refl }

  length-framed : length (framed v k (L.put a)) ≡ length (opening v k (length (L.put a))) + length (L.put a)
  length-framed = length-append (opening v k (length (L.put a))) (L.put a)

  -- each answer of open_message, carried on
  module _ (n : ℕ) (new : List ℕ) (e : n ≡ length (L.put a)) where
    pub sent-refused : Does (opened v k n old) (Err Refused) new → Does (sent L v k a old) (Err Refused) new
    unfolding sent written
    sent-refused d =
        let o = open-refused v k (length (L.put a)) old new (rw e at d) in
        rw (o.0, o.1) (record { says = refl; area = refl })

    pub sent-short : L.fits a ≡ true → Does (opened v k n old) (Err NoRoom) new → Does (sent L v k a old) (Err NoRoom) new
    unfolding sent
    sent-short h d =
        let o = open-short v k (length (L.put a)) old new (rw e at d) in
        rw (o.0, h, o.2) (written-short (framed v k (L.put a)) old (omega (arith, length-framed, o.1)))

    pub sent-done : (p q : ℕ) (y : List ℕ) → L.fits a ≡ true → Does (opened v k n old) (Ok p) new → y ≡ sets new p (L.put a) → q ≡ p + n → Does (sent L v k a old) (Ok q) y
    unfolding sent
    sent-done p q y h d x z =
        let o = open_done v k (length (L.put a)) old new p (rw e at d) in
        let f : Wrote old 0 (opening v k (length (L.put a))) new p = record { holds = o.3; next = rw zero-add o.2 } in
        let w = wrote-sets (L.put a) f x (rw e at z) in
        rw (o.0, h) (written-done (framed v k (L.put a)) old y q (omega (arith, length-framed, o.1)) (omega (arith, length-framed, o.2)) w.holds)
