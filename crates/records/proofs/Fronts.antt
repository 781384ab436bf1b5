-- Laws of what stands at the front: by the tests that the code makes, from the first octet on; with octets behind it; and where a record ends.
use Prim.Native.Nat.{ℕ, suc, ◌+◌, ◌-◌, ◌*◌, ◌≤◌, ◌<◌}
use mathlib.Core.Path.{◌≡◌, refl, ◌∙◌}
use mathlib.Core.Bool.{Bool, true, false, cond}
use mathlib.Core.List.{List, [], ◌∷◌, ◌++◌}
use native.Mathlib.Omega.{arith}
use lib.ListN.{length, take, drop, get_or, length-append, length-drop}
use lib.Seq.{take-append-le, drop-append-le, length-take-le, drop-drop, get_or-drop}
use lib.Dec.{eqb, leb, ltb}
use borrow.Author.Tests.{lt-ltb, le-ltb, le-leb, lt-leb, eq-eqb, ne_eqb, ltb-true, ltb-false, leb-false}
use Rattle.octets.specs.declared.Port.{Port}
use Rattle.records.specs.Record.{Front, nothing, wrong, cut, whole, port_of, request, request_length, port, second_mark, front, front_after}

-- ---- by the tests

-- the port and the length, behind the mark
port-high : (s : List ℕ) → 0 < length s → 1 < get_or s 0 0 → port s ≡ wrong
port-high [] h g = absurd (omega arith)
port-high (a ∷ s) h g = rw (lt-ltb 1 a g)

port-cut : (s : List ℕ) → length s < 3 → get_or s 0 0 ≤ 1 → port s ≡ cut
port-cut [] h g = refl
port-cut (a ∷ []) h g = rw (le-ltb 1 a g)
port-cut (a ∷ b ∷ []) h g = rw (le-ltb 1 a g)
port-cut (a ∷ b ∷ c ∷ s) h g = absurd (omega arith)

port-request : (s : List ℕ) → 3 ≤ length s → get_or s 0 0 ≤ 1 → port s ≡ request (port_of (get_or s 0 0)) (get_or s 1 0 * 256 + get_or s 2 0) (drop 3 s)
port-request [] h g = absurd (omega arith)
port-request (a ∷ []) h g = absurd (omega arith)
port-request (a ∷ b ∷ []) h g = absurd (omega arith)
port-request (a ∷ b ∷ c ∷ s) h g = rw (le-ltb 1 a g)

-- the mark
front-first : (s : List ℕ) → 0 < length s → (get_or s 0 0 ≡ 0x4d → ⊥) → front s ≡ wrong
unfolding front
front-first [] h g = absurd (omega arith)
front-first (a ∷ s) h g = rw (ne_eqb a 0x4d g)

front-second : (s : List ℕ) → 0 < length s → get_or s 0 0 ≡ 0x4d → front s ≡ second_mark (drop 1 s)
unfolding front
front-second [] h g = absurd (omega arith)
front-second (a ∷ s) h g = rw (eq-eqb a 0x4d g)

front-port : (s : List ℕ) → 2 ≤ length s → get_or s 0 0 ≡ 0x4d → get_or s 1 0 ≡ 0x41 → front s ≡ port (drop 2 s)
unfolding front
front-port [] h g k = absurd (omega arith)
front-port (a ∷ []) h g k = absurd (omega arith)
front-port (a ∷ b ∷ s) h g k = rw (eq-eqb a 0x4d g, eq-eqb b 0x41 k)

front-unmarked : (s : List ℕ) → 2 ≤ length s → get_or s 0 0 ≡ 0x4d → (get_or s 1 0 ≡ 0x41 → ⊥) → front s ≡ wrong
unfolding front
front-unmarked [] h g k = absurd (omega arith)
front-unmarked (a ∷ []) h g k = absurd (omega arith)
front-unmarked (a ∷ b ∷ s) h g k = rw (eq-eqb a 0x4d g, ne_eqb b 0x41 k)

-- a list that is shorter than its parts has none of them
drop-short : (s : List ℕ) (n : ℕ) → length s ≡ n → length (drop n s) ≡ 0
drop-short s n h = rw length-drop (omega arith)

second_none : (s : List ℕ) → length s ≡ 0 → second_mark s ≡ cut
second_none [] h = refl
second_none (a ∷ s) h = absurd (omega arith)

port-none : (s : List ℕ) → length s ≡ 0 → port s ≡ cut
port-none [] h = refl
port-none (a ∷ s) h = absurd (omega arith)

module _ (n : ℕ) (s : List ℕ) where
  pub look-nothing : length s ≡ 0 → front_after n s ≡ nothing
  unfolding front_after
  look-nothing h = go s h
    where
      go : (s : List ℕ) → length s ≡ 0 → front_after n s ≡ nothing
      go [] h = refl
      go (a ∷ s) h = absurd (omega arith)

  -- a record too many
  pub look-late : 0 < length s → 4294967295 ≤ n → front_after n s ≡ wrong
  unfolding front_after
  look-late h g = go s h
    where
      go : (s : List ℕ) → 0 < length s → front_after n s ≡ wrong
      go [] h = absurd (omega arith)
      go (a ∷ s) h = rw (le-leb 4294967295 n g)

  module _ (early : n < 4294967295) where
    -- before that, what stands there counts
    pub look-early : front_after n s ≡ front s
    unfolding front_after front
    look-early = go s
      where
        go : (s : List ℕ) → front_after n s ≡ front s
        go [] = refl
        go (a ∷ s) = rw (lt-leb 4294967295 n early)

    pub look-first : 0 < length s → (get_or s 0 0 ≡ 0x4d → ⊥) → front_after n s ≡ wrong
    look-first h g = look-early ∙ front-first s h g

    module _ (first : get_or s 0 0 ≡ 0x4d) where
      pub look-cut-mark : length s ≡ 1 → front_after n s ≡ cut
      look-cut-mark h = look-early ∙ front-second s (omega arith) first ∙ second_none (drop 1 s) (drop-short s 1 h)

      pub look-second : 2 ≤ length s → (get_or s 1 0 ≡ 0x41 → ⊥) → front_after n s ≡ wrong
      look-second h g = look-early ∙ front-unmarked s h first g

      module _ (second : get_or s 1 0 ≡ 0x41) where
        pub look-cut-port : length s ≡ 2 → front_after n s ≡ cut
        look-cut-port h = look-early ∙ front-port s (omega arith) first second ∙ port-none (drop 2 s) (drop-short s 2 h)

        pub look-port : 3 ≤ length s → 1 < get_or s 2 0 → front_after n s ≡ wrong
        look-port h g = look-early ∙ front-port s (omega arith) first second ∙ port-high (drop 2 s) (rw length-drop (omega arith)) (rw get_or-drop g)

        module _ (low : get_or s 2 0 ≤ 1) where
          pub look-cut-length : length s < 5 → 2 ≤ length s → front_after n s ≡ cut
          look-cut-length h g = look-early ∙ front-port s g first second ∙ port-cut (drop 2 s) (rw length-drop (omega arith)) (rw get_or-drop low)

          module _ (five : 5 ≤ length s) where
            -- the length counts once both of its octets are there
            look-request : front_after n s ≡ request (port_of (get_or s 2 0)) (get_or s 3 0 * 256 + get_or s 4 0) (drop 5 s)
            look-request =
                look-early ∙ front-port s (omega arith) first second ∙ port-request (drop 2 s) (rw length-drop (omega arith)) (rw get_or-drop low)
                ∙ rw (get_or-drop 2 s 0 0, get_or-drop 2 s 1 0, get_or-drop 2 s 2 0, drop-drop 3 2 s)

            pub look-long : 2048 < get_or s 3 0 * 256 + get_or s 4 0 → front_after n s ≡ wrong
            look-long h = look-request ∙ rw (lt-ltb 2048 _ h)

            module _ (short : get_or s 3 0 * 256 + get_or s 4 0 ≤ 2048) where
              pub look-cut : length s - 5 < get_or s 3 0 * 256 + get_or s 4 0 → front_after n s ≡ cut
              look-cut h = look-request ∙ rw (le-ltb 2048 _ short, length-drop 5 s, lt-ltb (length s - 5) _ h)

              pub look-whole : get_or s 3 0 * 256 + get_or s 4 0 ≤ length s - 5 → (m : ℕ) → m ≡ get_or s 3 0 * 256 + get_or s 4 0
                  → front_after n s ≡ whole (port_of (get_or s 2 0)) (take m (drop 5 s)) (drop (5 + m) s)
              look-whole h m e = look-request ∙ rw (le-ltb 2048 _ short, length-drop 5 s, le-ltb (length s - 5) _ h, ← e, drop-drop m 5 s)

-- each way out of `look` but a record
pub ruleset looks = (look-nothing, look-late, look-first, look-cut-mark, look-second, look-cut-port, look-port, look-cut-length, look-long, look-cut)

-- ---- octets behind

-- what more octets do not change, but for what stands behind a record
abbrev pub Settled : Front → Type 0
Settled nothing = ⊥
Settled wrong = Unit {0}
Settled cut = ⊥
Settled (whole p r s) = Unit {0}

abbrev pub onward : List ℕ → Front → Front
onward x nothing = nothing
onward x wrong = wrong
onward x cut = cut
onward x (whole p r s) = whole p r (s ++ x)

module _ (x : List ℕ) where
  request-behind : (p : Port) (n : ℕ) (s : List ℕ) → Settled (request p n s) → request p n (s ++ x) ≡ onward x (request p n s)
  request-behind p n s = high (ltb 2048 n)
    where
      fits : (c : Bool) → ltb (length s) n ≡ c → Settled (cond c cut (whole p (take n s) (drop n s)))
          → cond (ltb (length (s ++ x)) n) cut (whole p (take n (s ++ x)) (drop n (s ++ x))) ≡ onward x (cond c cut (whole p (take n s) (drop n s)))
      fits true e h = absurd h
      fits false e h =
          let g : n ≤ length s = ltb-false (length s) n e in
          let l : n ≤ length (s ++ x) = rw length-append (omega arith) in
          rw (le-ltb _ _ l, take-append-le n s x g, drop-append-le n s x g)

      high : (b : Bool) → Settled (cond b wrong (cond (ltb (length s) n) cut (whole p (take n s) (drop n s))))
          → cond b wrong (cond (ltb (length (s ++ x)) n) cut (whole p (take n (s ++ x)) (drop n (s ++ x))))
          ≡ onward x (cond b wrong (cond (ltb (length s) n) cut (whole p (take n s) (drop n s))))
      high true h = refl
      high false h = fits (ltb (length s) n) refl h

  length-behind : (p : Port) (s : List ℕ) → Settled (request_length p s) → request_length p (s ++ x) ≡ onward x (request_length p s)
  length-behind p [] h = absurd h
  length-behind p (a ∷ []) h = absurd h
  length-behind p (a ∷ b ∷ s) h = request-behind p (a * 256 + b) s h

  port-behind : (s : List ℕ) → Settled (port s) → port (s ++ x) ≡ onward x (port s)
  port-behind [] h = absurd h
  port-behind (a ∷ s) h = go (ltb 1 a) h
    where
      go : (b : Bool) → Settled (cond b wrong (request_length (port_of a) s)) → cond b wrong (request_length (port_of a) (s ++ x)) ≡ onward x (cond b wrong (request_length (port_of a) s))
      go true h = refl
      go false h = length-behind (port_of a) s h

  second-behind : (s : List ℕ) → Settled (second_mark s) → second_mark (s ++ x) ≡ onward x (second_mark s)
  second-behind [] h = absurd h
  second-behind (a ∷ s) h = go (eqb a 0x41) h
    where
      go : (b : Bool) → Settled (cond b (port s) wrong) → cond b (port (s ++ x)) wrong ≡ onward x (cond b (port s) wrong)
      go true h = port-behind s h
      go false h = refl

  front-behind : (a : ℕ) (s : List ℕ) → Settled (front (a ∷ s)) → front (a ∷ s ++ x) ≡ onward x (front (a ∷ s))
  unfolding front
  front-behind a s h = go (eqb a 0x4d) h
    where
      go : (b : Bool) → Settled (cond b (second_mark s) wrong) → cond b (second_mark (s ++ x)) wrong ≡ onward x (cond b (second_mark s) wrong)
      go true h = second-behind s h
      go false h = refl

  -- what is wrong stays wrong, and a record stays the record it is, whatever comes behind
  pub settled : (n : ℕ) (s : List ℕ) → Settled (front_after n s) → front_after n (s ++ x) ≡ onward x (front_after n s)
  unfolding front_after
  settled n [] h = absurd h
  settled n (a ∷ s) h = go (leb 4294967295 n) h
    where
      go : (b : Bool) → Settled (cond b wrong (front (a ∷ s))) → cond b wrong (front (a ∷ s ++ x)) ≡ onward x (cond b wrong (front (a ∷ s)))
      go true h = refl
      go false h = front-behind a s h

-- ---- where a record ends

-- of octets s that begin with m octets before the request: fewer than m + 2,048 are cut; a record's are those m, its request of at most 2,048, and what stands behind
abbrev pub Spans : ℕ → List ℕ → Front → Type 0
Spans m s nothing = length s + 5 ≤ m
Spans m s wrong = Unit {0}
Spans m s cut = length s < m + 2048
Spans m s (whole p r t) = (length r ≤ 2048) × (length s ≡ m + length r + length t) × (drop (m + length r) s ≡ t)

-- one octet more before them
spans-more : (m a : ℕ) (s : List ℕ) (f : Front) → Spans m s f → Spans (suc m) (a ∷ s) f
spans-more m a s nothing h = omega arith
spans-more m a s wrong h = tt
spans-more m a s cut h = omega arith
spans-more m a s (whole p r t) h = let e : suc m + length r ≡ suc (m + length r) = omega arith in (h.0, omega (arith, h.1), rw e h.2)

request-spans : (p : Port) (n : ℕ) (s : List ℕ) → Spans 0 s (request p n s)
request-spans p n s = high (ltb 2048 n) refl
  where
    fits : (c : Bool) → n ≤ 2048 → ltb (length s) n ≡ c → Spans 0 s (cond c cut (whole p (take n s) (drop n s)))
    fits true g e = omega (arith, ltb-true (length s) n e)
    fits false g e =
        let h : length (take n s) ≡ n = length-take-le n s (ltb-false _ _ e) in
        let z : 0 + n ≡ n = omega arith in
        rw h (g, rw length-drop (omega (arith, ltb-false (length s) n e)), rw z)

    high : (b : Bool) → ltb 2048 n ≡ b → Spans 0 s (cond b wrong (cond (ltb (length s) n) cut (whole p (take n s) (drop n s))))
    high true e = tt
    high false e = fits (ltb (length s) n) (ltb-false 2048 n e) refl

length-spans : (p : Port) (s : List ℕ) → Spans 2 s (request_length p s)
length-spans p [] = omega arith
length-spans p (a ∷ []) = omega arith
length-spans p (a ∷ b ∷ s) = let f = request p (a * 256 + b) s in spans-more 1 a (b ∷ s) f (spans-more 0 b s f (request-spans p (a * 256 + b) s))

port-spans : (s : List ℕ) → Spans 3 s (port s)
port-spans [] = omega arith
port-spans (a ∷ s) = go (ltb 1 a)
  where
    go : (b : Bool) → Spans 3 (a ∷ s) (cond b wrong (request_length (port_of a) s))
    go true = tt
    go false = spans-more 2 a s (request_length (port_of a) s) (length-spans (port_of a) s)

second-spans : (s : List ℕ) → Spans 4 s (second_mark s)
second-spans [] = omega arith
second-spans (a ∷ s) = go (eqb a 0x41)
  where
    go : (b : Bool) → Spans 4 (a ∷ s) (cond b (port s) wrong)
    go true = spans-more 3 a s (port s) (port-spans s)
    go false = tt

front-spans : (s : List ℕ) → Spans 5 s (front s)
unfolding front
front-spans [] = omega arith
front-spans (a ∷ s) = go (eqb a 0x4d)
  where
    go : (b : Bool) → Spans 5 (a ∷ s) (cond b (second_mark s) wrong)
    go true = spans-more 4 a s (second_mark s) (second-spans s)
    go false = tt

pub spans : (n : ℕ) (s : List ℕ) → Spans 5 s (front_after n s)
unfolding front_after
spans n [] = omega arith
spans n (a ∷ s) = go (leb 4294967295 n)
  where
    go : (b : Bool) → Spans 5 (a ∷ s) (cond b wrong (front (a ∷ s)))
    go true = tt
    go false = front-spans (a ∷ s)

-- ---- the count

-- a record is answered only if fewer than 4,294,967,295 were before it
abbrev pub Counts : ℕ → Front → Type 0
Counts n nothing = Unit {0}
Counts n wrong = Unit {0}
Counts n cut = Unit {0}
Counts n (whole p r s) = n < 4294967295

pub counts : (n : ℕ) (s : List ℕ) → Counts n (front_after n s)
unfolding front_after
counts n [] = tt
counts n (a ∷ s) = go (leb 4294967295 n) refl
  where
    any : (f : Front) → n < 4294967295 → Counts n f
    any nothing h = tt
    any wrong h = tt
    any cut h = tt
    any (whole p r t) h = h

    go : (b : Bool) → leb 4294967295 n ≡ b → Counts n (cond b wrong (front (a ∷ s)))
    go true e = tt
    go false e = any (front (a ∷ s)) (leb-false 4294967295 n e)
