-- The frame around a body: what its readers find at a position, and the round trip of whole messages, over any table of lawful bodies.
use Prim.Native.Nat.{ℕ, suc, ◌+◌, ◌-◌, ◌*◌, ◌/◌, ◌%◌, ◌<◌, ◌≤◌}
use mathlib.Core.Path.{◌≡◌, refl, sym, ap, ◌∙◌}
use mathlib.Core.Bool.{Bool, true, false, cond}
use mathlib.Core.List.{List, [], ◌∷◌, ◌++◌, append-nil}
use native.Mathlib.Omega.{arith}
use lib.ListN.{length, get_or, drop, length-drop, length-append}
use lib.Dec.{ltb, leb, eqb}
use borrow.Author.Tests.{eq-eqb, ne_eqb, eqb-true, lt-ltb, le-ltb, le-leb, ltb-true, ltb-false, leb-true}
use Rattle.octets.specs.Reading.{Read, bad, ok, and_then, at_end, Octets}
use Rattle.octets.specs.Length.{encode_length, decode_length}
use Rattle.octets.specs.Layout.{Layout}
use Rattle.octets.specs.Frame.{opening, openable, typed, commanded, heading, enclosed, Message, bodied, decode, encode, writable, receive}
use Rattle.octets.specs.declared.Fault.{Fault}
use Rattle.octets.specs.declared.Fault.TheVariants.{Other}
use Rattle.octets.proofs.Places.{here, here_end, both, both-are, pick_same, bad-ok, ok-val, ok-rest, went, end_back, octets-rest}
use Rattle.octets.proofs.Lengths.{length-there, length_back}
use Rattle.octets.proofs.Lawful.{Lawful}

-- ---- version and operation type, by the tests that the code makes

pub heading-short : (s : List ℕ) → length s < 3 → heading s ≡ bad Other
unfolding heading
heading-short [] h = refl
heading-short (v ∷ []) h = pick_same {A = Read (ℕ × ℕ)} (eqb (v % 16) 0) (bad Other)
heading-short (v ∷ c ∷ []) h = rw (pick_same {A = Read (ℕ × ℕ)} (eqb c 1) (bad Other)) (pick_same {A = Read (ℕ × ℕ)} (eqb (v % 16) 0) (bad Other))
heading-short (v ∷ c ∷ k ∷ l) h = absurd (omega arith)

pub heading-fill : (s : List ℕ) → 3 ≤ length s → (get_or s 0 0 % 16 ≡ 0 → ⊥) → heading s ≡ bad Other
unfolding heading
heading-fill [] h k = absurd (omega arith)
heading-fill (v ∷ l) h k = rw (ne_eqb (v % 16) 0 k)

pub heading-command : (s : List ℕ) → 3 ≤ length s → (get_or s 1 0 ≡ 1 → ⊥) → heading s ≡ bad Other
unfolding heading
heading-command [] h k = absurd (omega arith)
heading-command (v ∷ []) h k = absurd (omega arith)
heading-command (v ∷ c ∷ l) h k = rw (ne_eqb c 1 k) (pick_same {A = Read (ℕ × ℕ)} (eqb (v % 16) 0) (bad Other))

pub heading-is : (s : List ℕ) → 3 ≤ length s → get_or s 0 0 % 16 ≡ 0 → get_or s 1 0 ≡ 1 → heading s ≡ ok (get_or s 0 0 / 16, get_or s 2 0) (drop 3 s)
unfolding heading
heading-is [] h f c = absurd (omega arith)
heading-is (v ∷ []) h f c = absurd (omega arith)
heading-is (v ∷ x ∷ []) h f c = absurd (omega arith)
heading-is (v ∷ x ∷ k ∷ l) h f c = rw (eq-eqb (v % 16) 0 f, eq-eqb x 1 c)

-- ---- profile and length of the body

module _ (s : List ℕ) where
  pub enclosed-none : length s < 4 → enclosed (drop 3 s) ≡ bad Other
  unfolding enclosed
  enclosed-none h = let k : length s ≤ 3 = omega arith in rw (here_end s 3 k)

  pub enclosed-profile : 4 ≤ length s → (get_or s 3 0 ≡ 0 → ⊥) → enclosed (drop 3 s) ≡ bad Other
  unfolding enclosed
  enclosed-profile h k = let g : 3 < length s = h in rw (here s 3 g, ne_eqb (get_or s 3 0) 0 k)

  module _ (h : 4 ≤ length s) (k : get_or s 3 0 ≡ 0) where
    -- profile 0: a length follows, and it must be the rest's
    pub enclosed-on : enclosed (drop 3 s) ≡ and_then (decode_length (drop 4 s)) (λ n r. cond (eqb n (length r)) (ok tt r) (bad Other))
    unfolding enclosed
    enclosed-on = let g : 3 < length s = h in rw (here s 3 g, eq-eqb (get_or s 3 0) 0 k)

    pub enclosed-length : (f : Fault) → bad f ≡ decode_length (drop 4 s) → enclosed (drop 3 s) ≡ bad f
    enclosed-length f e = rw (enclosed-on, ← e)

    pub enclosed-not : (n next : ℕ) → ok n (drop next s) ≡ decode_length (drop 4 s) → (length s - next ≡ n → ⊥) → enclosed (drop 3 s) ≡ bad Other
    enclosed-not n next e j = rw (enclosed-on, ← e, length-drop next s, ne_eqb n (length s - next) (λ q. j (sym q)))

    pub enclosed-is : (n next : ℕ) → ok n (drop next s) ≡ decode_length (drop 4 s) → length s - next ≡ n → enclosed (drop 3 s) ≡ ok tt (drop next s)
    enclosed-is n next e j = rw (enclosed-on, ← e, length-drop next s, eq-eqb n (length s - next) (sym j))

-- ---- the round trip

-- what a message that may be written has
pub openable-is : (v k n : ℕ) → openable v k n ≡ true → (v < 16) × (length (opening v k n) + n ≤ 2048)
unfolding openable
openable-is v k n h =
    let b = both (ltb v 16) (leb (length (opening v k n) + n) 2048) h in
    (ltb-true v 16 b.0, leb-true _ _ b.1)

-- an opening reads as its version and operation type
heading-there : (v k n : ℕ) (r : List ℕ) → heading (opening v k n ++ r) ≡ ok (v, k) (0 ∷ encode_length n ++ r)
unfolding heading opening
heading-there v k n r =
    let f : v * 16 % 16 ≡ 0 = omega arith in
    let e : v * 16 / 16 ≡ v = omega arith in
    rw (f, e)

-- profile 0 and a body's length read as that body
enclosed-there : (b : List ℕ) → length b < 16384 → enclosed (0 ∷ encode_length (length b) ++ b) ≡ ok tt b
unfolding enclosed
enclosed-there b h = rw (length-there (length b) b h, eq-eqb (length b) (length b) refl)

-- the octets behind the heading, taken apart
enclosed-back : (l : List ℕ) (r : List ℕ) → Octets l → enclosed l ≡ ok tt r → l ≡ 0 ∷ encode_length (length r) ++ r
unfolding enclosed
enclosed-back [] r o e = absurd (bad-ok e)
enclosed-back (p ∷ l) r o e = profile (eqb p 0) refl e
  where
    rest : (n : ℕ) (t : List ℕ) (c : Bool) → eqb n (length t) ≡ c → l ≡ encode_length n ++ t → ◌≡◌ {A = Read (Unit {0})} (cond c (ok tt t) (bad Other)) (ok tt r) → l ≡ encode_length (length r) ++ r
    rest n t true f x g = rw (← ok-rest g, ← eqb-true n (length t) f) x
    rest n t false f x g = absurd (bad-ok g)

    profile : (b : Bool) → eqb p 0 ≡ b → ◌≡◌ {A = Read (Unit {0})} (cond b (and_then (decode_length l) (λ n t. cond (eqb n (length t)) (ok tt t) (bad Other))) (bad Other)) (ok tt r) → p ∷ l ≡ 0 ∷ encode_length (length r) ++ r
    profile true f g =
        let w = went (decode_length l) (λ n t. cond (eqb n (length t)) (ok tt t) (bad Other)) tt r g in
        let x = length_back l w.val w.rest (λ k. o (suc k)) w.first in
        let y : l ≡ encode_length (length r) ++ r = rest w.val w.rest (eqb w.val (length w.rest)) refl x.0 w.then in
        ap (λ (x : ℕ). x ∷ l) (eqb-true p 0 f) ∙ ap (λ (t : List ℕ). 0 ∷ t) y
    profile false f g = absurd (bad-ok g)

-- the octets of a heading, taken apart
heading-back : (s : List ℕ) (v k : ℕ) (l : List ℕ) → Octets s → heading s ≡ ok (v, k) l → (s ≡ (v * 16) ∷ 1 ∷ k ∷ l) × (v < 16)
unfolding heading
heading-back [] v k l o e = absurd (bad-ok e)
heading-back (x ∷ s) v k l o e = fill (eqb (x % 16) 0) refl e
  where
    kind : (t : List ℕ) → typed (x / 16) t ≡ ok (v, k) l → (x / 16 ≡ v) × (t ≡ k ∷ l)
    kind [] g = absurd (bad-ok g)
    kind (y ∷ t) g =
        let q : ◌≡◌ {A = ℕ × ℕ} (x / 16, y) (v, k) = ok-val g in
        (ap (λ (p : ℕ × ℕ). p.0) q, rw (ap (λ (p : ℕ × ℕ). p.1) q, ok-rest g))

    command : (s : List ℕ) → commanded (x / 16) s ≡ ok (v, k) l → (x / 16 ≡ v) × (s ≡ 1 ∷ k ∷ l)
    command [] g = absurd (bad-ok g)
    command (c ∷ t) g = go (eqb c 1) refl g
      where
        go : (b : Bool) → eqb c 1 ≡ b → cond b (typed (x / 16) t) (bad Other) ≡ ok (v, k) l → (x / 16 ≡ v) × (c ∷ t ≡ 1 ∷ k ∷ l)
        go true f g = let z = kind t g in (z.0, rw (eqb-true c 1 f, z.1))
        go false f g = absurd (bad-ok g)

    fill : (b : Bool) → eqb (x % 16) 0 ≡ b → cond b (commanded (x / 16) s) (bad Other) ≡ ok (v, k) l → (x ∷ s ≡ (v * 16) ∷ 1 ∷ k ∷ l) × (v < 16)
    fill true f g =
        let z = command s g in
        let m : x % 16 ≡ 0 = eqb-true (x % 16) 0 f in
        let d : x / 16 ≡ v = z.0 in
        let y : x ≡ v * 16 = omega arith in
        (rw (y, z.1), omega (arith, o 0))
    fill false f g = absurd (bad-ok g)

module _ {A : Type 0} (kinds : ℕ → Layout A) (lawful : (k : ℕ) → Lawful (kinds k)) where
  length-encode : (m : Message A) → length (encode kinds m) ≡ length (opening m.version m.kind (length ((kinds m.kind).put m.body))) + length ((kinds m.kind).put m.body)
  unfolding encode
  length-encode m = length-append (opening m.version m.kind (length ((kinds m.kind).put m.body))) ((kinds m.kind).put m.body)

  -- the octets of a message decode to it
  decode-there : (m : Message A) → length ((kinds m.kind).put m.body) < 16384 → (kinds m.kind).fits m.body ≡ true → decode kinds (encode kinds m) ≡ ok m []
  unfolding decode encode
  decode-there m k f =
      let L = kinds m.kind in
      let b = L.put m.body in
      let e : L.get b ≡ ok m.body [] = rw (← append-nil b) ((lawful m.kind).there m.body [] f) in
      rw (heading-there m.version m.kind (length b) b, enclosed-there b k, e)

  -- what is written reads back as the message that it was written from
  pub written-reads : (m : Message A) → writable kinds m ≡ true → receive kinds (encode kinds m) ≡ ok m []
  unfolding writable receive
  written-reads m h =
      let L = kinds m.kind in
      let b = L.put m.body in
      let c = both (openable m.version m.kind (length b)) (L.fits m.body) h in
      let o = openable-is m.version m.kind (length b) c.0 in
      let g : length (encode kinds m) ≤ 2048 = omega (arith, length-encode m, o.1) in
      rw (le-ltb _ _ g) (decode-there m (omega (arith, o.1)) c.1)

  -- the octets of a message, put together from its parts' octets
  body_back : (s l r t : List ℕ) (v k : ℕ) (b : A) (m : Message A) → Octets s → heading s ≡ ok (v, k) l → enclosed l ≡ ok tt r → at_end ((kinds k).get r) ≡ ok b t
      → ◌≡◌ {A = Read (Message A)} (ok (record { version = v; kind = k; body = b }) t) (ok m []) → (s ≡ encode kinds m) × (m.version < 16) × ((kinds m.kind).fits m.body ≡ true)
  unfolding encode opening
  body_back s l r t v k b m o e f g q =
      let x = heading-back s v k l o e in
      let ol : Octets l = λ j. rw x.0 at o (suc (suc (suc j))) in
      let y = enclosed-back l r ol f in
      let z = end_back ((kinds k).get r) b t g in
      let or : Octets r = octets-rest (0 ∷ encode_length (length r)) r (rw y at ol) in
      let w = (lawful k).back r b [] or z.0 in
      let u : r ≡ (kinds k).put b = w.0 ∙ append-nil ((kinds k).put b) in
      rw (← ok-val q) (rw (x.0, y, u), x.1, w.1)

  -- what decodes is the octets of a message that fits its fields
  decode-back : (s : List ℕ) (m : Message A) → Octets s → decode kinds s ≡ ok m [] → (s ≡ encode kinds m) × (m.version < 16) × ((kinds m.kind).fits m.body ≡ true)
  unfolding decode
  decode-back s m o e =
      let w = went (heading s) (λ h l. and_then (enclosed l) (λ u r. bodied kinds h r)) m [] e in
      let x = went (enclosed w.rest) (λ u r. bodied kinds w.val r) m [] w.then in
      let y = went (at_end ((kinds w.val.1).get x.rest)) (λ b r. ok (record { version = w.val.0; kind = w.val.1; body = b }) r) m [] x.then in
      body_back s w.rest x.rest y.rest w.val.0 w.val.1 y.val m o w.first x.first y.first y.then

  -- whatever is read is exactly what would be written from the message that it was read as
  pub read-written : (s : List ℕ) (m : Message A) → Octets s → receive kinds s ≡ ok m [] → (s ≡ encode kinds m) × (writable kinds m ≡ true)
  unfolding receive writable openable
  read-written s m o e = go (ltb 2048 (length s)) refl e
    where
      go : (b : Bool) → ltb 2048 (length s) ≡ b → cond b (bad Other) (decode kinds s) ≡ ok m [] → (s ≡ encode kinds m) × (writable kinds m ≡ true)
      go true f g = absurd (bad-ok g)
      go false f g =
          let x = decode-back s m o g in
          let b = (kinds m.kind).put m.body in
          let n : length (opening m.version m.kind (length b)) + length b ≤ 2048 = omega (arith, length-encode m, ap length x.0, ltb-false 2048 (length s) f) in
          (x.0, both-are _ _ (both-are _ _ (lt-ltb m.version 16 x.1) (le-leb _ _ n)) x.2)

  -- a message decoded by its parts
  pub decode-headless : (s : List ℕ) (f : Fault) → bad f ≡ heading s → decode kinds s ≡ bad f
  unfolding decode
  decode-headless s f e = rw (← e)

  module _ (s : List ℕ) (version kind : ℕ) (l : List ℕ) (e : ok (version, kind) l ≡ heading s) where
    pub decode-unenclosed : (f : Fault) → bad f ≡ enclosed l → decode kinds s ≡ bad f
    unfolding decode
    decode-unenclosed f g = rw (← e, ← g)

    pub decode-body : (r : List ℕ) → ok tt r ≡ enclosed l → decode kinds s ≡ bodied kinds (version, kind) r
    unfolding decode
    decode-body r g = rw (← e, ← g)

  -- what is received is decoded, and not over 2,048 octets
  pub receive-is : (s : List ℕ) (m : Message A) (r : List ℕ) → receive kinds s ≡ ok m r → (length s ≤ 2048) × (decode kinds s ≡ ok m r)
  unfolding receive
  receive-is s m r e = go (ltb 2048 (length s)) refl e
    where
      go : (b : Bool) → ltb 2048 (length s) ≡ b → cond b (bad Other) (decode kinds s) ≡ ok m r → (length s ≤ 2048) × (decode kinds s ≡ ok m r)
      go true f g = absurd (bad-ok g)
      go false f g = (ltb-false _ _ f, g)

  pub receive_all : (s : List ℕ) → length s ≤ 2048 → receive kinds s ≡ decode kinds s
  unfolding receive
  receive_all s h = rw (le-ltb _ _ h)

  body-whole : (h : ℕ × ℕ) (l r : List ℕ) (m : Message A) → bodied kinds h l ≡ ok m r → r ≡ []
  body-whole h l r m e =
      let w = went (at_end ((kinds h.1).get l)) (λ b t. ok (record { version = h.0; kind = h.1; body = b }) t) m r e in
      sym (ok-rest w.then) ∙ (end_back ((kinds h.1).get l) w.val w.rest w.first).1

  -- a message is read to the last octet
  pub read_whole : (s : List ℕ) (m : Message A) (r : List ℕ) → receive kinds s ≡ ok m r → r ≡ []
  unfolding receive decode
  read_whole s m r e = go (ltb 2048 (length s)) e
    where
      go : (b : Bool) → cond b (bad Other) (and_then (heading s) (λ h l. and_then (enclosed l) (λ u t. bodied kinds h t))) ≡ ok m r → r ≡ []
      go true g = absurd (bad-ok g)
      go false g =
          let w = went (heading s) (λ h l. and_then (enclosed l) (λ u t. bodied kinds h t)) m r g in
          let x = went (enclosed w.rest) (λ u t. bodied kinds w.val t) m r w.then in
          body-whole w.val x.rest r m x.then
