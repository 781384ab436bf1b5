-- The denial: it reads back, its octets and its parts as they are read one behind the other, and which denials may be written.
use Prim.Native.Nat.{ℕ, ◌+◌, ◌*◌, ◌/◌, ◌%◌, ◌<◌, ◌≤◌}
use mathlib.Core.Path.{◌≡◌, refl, sym, ◌∙◌}
use mathlib.Core.Bool.{Bool, true, false, ◌&&◌}
use mathlib.Core.List.{List, [], ◌∷◌}
use native.Mathlib.Omega.{arith}
use lib.ListN.{length, get_or, drop, length-append}
use lib.Dec.{ltb, leb, eqb}
use borrow.Author.Tests.{le-leb, leb-true, leb-false, eqb-true, ltb-true, lt-ltb, le-ltb, eq-eqb, ne_eqb}
use Rattle.octets.specs.Reading.{Read, bad, ok, and_then, at_end}
use Rattle.octets.specs.Length.{encode_length}
use Rattle.octets.specs.Number.{octets, number, decode_number, fill_part, version_part}
use Rattle.octets.specs.Layout.{numeral, data', seq, only}
use Rattle.octets.specs.View.{within, NumberAt, DataAt}
use Rattle.std.specs.Prelude.{Ok, Err}
use Rattle.octets.specs.declared.Taken.{Taken}
use Rattle.octets.specs.declared.Fault.{Fault}
use Rattle.octets.specs.declared.Fault.TheVariants.{Other}
use Rattle.octets.specs.declared.Span.{Span}
use Rattle.octets.specs.declared.Width.TheVariants.{One}
use Rattle.octets.proofs.Places.{here, both, false-true, end_more}
use Rattle.octets.proofs.Lengths.{encode-short}
use Rattle.octets.proofs.Numbers.{length-octets}
use Rattle.octets.proofs.Spans.{span-length}
use Rattle.octets.proofs.Lawful.{Lawful, numeral-lawful, data-lawful, seq-lawful, via-lawful, only-lawful}
use Rattle.requests.proofs.Readings.{fault-told}
use Rattle.answers.specs.Answer.{is_denial}
use Rattle.answers.specs.View.{DenialOf}
use Rattle.answers.specs.Denial.{version_octet, exactly, supplement, Denial, denial_parts, denial_of, denial}

-- ---- what is written reads back, and only that is read

-- the version octet
version-lawful : Lawful version_octet
version-lawful =
    via-lawful version_part (λ v. v * 16) (only (λ x. eqb (fill_part x) 0) (numeral 1))
    (λ x h. let e = eqb-true (x % 16) 0 (both (ltb x 256) (eqb (x % 16) 0) h).1 in omega arith)
    (λ v h. omega arith)
    (only-lawful (λ x. eqb (fill_part x) 0) (numeral 1) (numeral-lawful 1))

-- an octet that is always the same
exactly-lawful : (n : ℕ) → Lawful (exactly n)
exactly-lawful n =
    via-lawful (λ x. tt) (λ u. n) (only (eqb n) (numeral 1))
    (λ x h. eqb-true _ _ (both (ltb x 256) (eqb n x) h).1)
    (λ u h. refl)
    (only-lawful (eqb n) (numeral 1) (numeral-lawful 1))

-- the supplement
supplement-lawful : Lawful supplement
supplement-lawful = only-lawful (λ d. ltb (length d) 128) data' data-lawful

-- the denial
pub denial-lawful : Lawful denial
denial-lawful =
    via-lawful denial_of denial_parts (seq version_octet (seq (exactly 255) (seq (numeral 1) supplement))) (λ p h. refl) (λ d h. refl)
    (seq-lawful version_octet (seq (exactly 255) (seq (numeral 1) supplement)) version-lawful
    (seq-lawful (exactly 255) (seq (numeral 1) supplement) (exactly-lawful 255)
    (seq-lawful (numeral 1) supplement (numeral-lawful 1) supplement-lawful)))

-- ---- its octets

-- the second is the mark that tells it
pub denial-second : (d : Denial) → get_or (denial.put d) 1 0 ≡ 255
unfolding octets
denial-second d = refl

-- how many they are
pub length-denial : (d : Denial) → length (denial.put d) ≡ 3 + length (encode_length (length d.supplement)) + length d.supplement
length-denial d = simp (length-append, length-octets) (omega arith)

-- those of a denial that may be written, one behind the other
pub denial-parts : (d : Denial) → d.version ≤ 15 → d.status < 256 → length d.supplement ≤ 127
    → denial.put d ≡ (d.version * 16) ∷ 255 ∷ d.status ∷ length d.supplement ∷ d.supplement
unfolding octets
denial-parts d v s n =
    let a : d.version * 16 / 1 % 256 ≡ d.version * 16 = omega arith in
    let b : d.status / 1 % 256 ≡ d.status = omega arith in
    rw (a, b, encode-short (length d.supplement) (omega arith))

-- ---- a denial, read part by part

-- what is read, under a constructor
abbrev pub under : {A B : Type 0} → (A → B) → Read A → Read B
under f p = and_then p (λ a r. ok (f a) r)

-- the rest of a denial of version v: from its 255 on, from its status on, and of status y from its supplement on
abbrev pub from_mark : ℕ → List ℕ → Read Denial
from_mark v l = under denial_of (under (λ p. (v, p)) ((seq (exactly 255) (seq (numeral 1) supplement)).get l))

abbrev pub from_status : ℕ → List ℕ → Read Denial
from_status v l = under denial_of (under (λ p. (v, p)) (under (λ p. (tt, p)) ((seq (numeral 1) supplement).get l)))

abbrev pub from_supplement : ℕ → ℕ → List ℕ → Read Denial
from_supplement v y l = under denial_of (under (λ p. (v, p)) (under (λ p. (tt, p)) (under (λ d. (y, d)) (supplement.get l))))

module _ (l : List ℕ) (x : ℕ) (t : List ℕ) (e : ok x t ≡ decode_number 1 l) where
  -- an octet whose fill bits are zero is the version octet
  pub past-version : x % 16 ≡ 0 → denial.get l ≡ from_mark (x / 16) t
  past-version z = rw (← e, eq-eqb (x % 16) 0 z)

  -- an octet with others is not
  pub fill-bad : (x % 16 ≡ 0 → ⊥) → denial.get l ≡ bad Other
  fill-bad z = rw (← e, ne_eqb (x % 16) 0 z)

  -- 255 behind the version octet is the mark
  pub past-mark : (v : ℕ) → x ≡ 255 → from_mark v l ≡ from_status v t
  past-mark v z = rw (← e, eq-eqb 255 x (sym z))

  -- any other octet there is not
  pub mark-bad : (v : ℕ) → (x ≡ 255 → ⊥) → from_mark v l ≡ bad Other
  mark-bad v z = rw (← e, ne_eqb 255 x (λ p. z (sym p)))

  -- any octet behind the mark is the status
  pub past-status : (v : ℕ) → from_status v l ≡ from_supplement v x t
  past-status v = rw (← e)

module _ (v y : ℕ) {s : List ℕ} (at : ℕ) {t : Taken Span} (e : DataAt s at (Ok t)) where
  -- data of at most 127 octets is the supplement
  pub past-supplement : t.value.len ≤ 127
      → from_supplement v y (drop at s) ≡ ok (record { version = v; status = y; supplement = within s t.value }) (drop t.next s)
  past-supplement h =
      rw (
        ← e.says,
        lt-ltb (length (within s t.value)) 128
            (omega (arith, span-length s t.value (omega (arith, e.place)))),
      )

  -- longer data is not
  pub supplement-bad : 127 < t.value.len → from_supplement v y (drop at s) ≡ bad Other
  supplement-bad h =
      rw (
        ← e.says,
        le-ltb (length (within s t.value)) 128
            (omega (arith, span-length s t.value (omega (arith, e.place)))),
      )

  -- nor is data with octets behind it
  pub supplement-behind : t.next < length s → at_end (from_supplement v y (drop at s)) ≡ bad Other
  supplement-behind h = go (leb t.value.len 127) refl
    where
      go : (b : Bool) → leb t.value.len 127 ≡ b → at_end (from_supplement v y (drop at s)) ≡ bad Other
      go true q =
          rw (past-supplement (leb-true _ _ q))
          (end_more s (record { version = v; status = y; supplement = within s t.value }) t.next h)
      go false q = rw (supplement-bad (leb-false _ _ q))

-- an octet that stands at a place
octet-there : (s : List ℕ) (at : ℕ) → at < length s → ok (get_or s at 0) (drop (at + 1) s) ≡ decode_number 1 (drop at s)
unfolding decode_number number
octet-there s at h =
    let q : 1 ≤ length (get_or s at 0 ∷ drop (at + 1) s) = omega arith in
    let e : get_or s at 0 * 1 + 0 ≡ get_or s at 0 = omega arith in
    rw (here s at h, le-leb 1 (length (get_or s at 0 ∷ drop (at + 1) s)) q, e)

-- an octet whose fill bits are not zero is first in no denial
pub denial-fill : (s : List ℕ) → 0 < length s → (get_or s 0 0 % 16 ≡ 0 → ⊥) → denial.get s ≡ bad Other
denial-fill s h z = fill-bad s (get_or s 0 0) (drop 1 s) (octet-there s 0 h) z

-- behind one whose fill bits are zero, and behind 255 and the status, stands the supplement
pub denial-on : (s : List ℕ) → 3 ≤ length s → get_or s 0 0 % 16 ≡ 0 → is_denial s ≡ true
    → denial.get s ≡ from_supplement (get_or s 0 0 / 16) (get_or s 2 0) (drop 3 s)
denial-on s h z m =
    past-version s (get_or s 0 0) (drop 1 s) (octet-there s 0 (omega arith)) z
    ∙ past-mark (drop 1 s) (get_or s 1 0) (drop 2 s) (octet-there s 1 (omega arith)) _ (eqb-true _ _ m)
    ∙ past-status (drop 2 s) (get_or s 2 0) (drop 3 s) (octet-there s 2 (omega arith)) _

-- octets with the mark are two or more
pub denial-two : (s : List ℕ) → is_denial s ≡ true → 2 ≤ length s
denial-two [] m = absurd (false-true m)
denial-two (v ∷ []) m = absurd (false-true m)
denial-two (v ∷ x ∷ l) m = omega arith

-- behind one whose fill bits are zero, and behind 255, stands the status
pub denial-mark : (s : List ℕ) → get_or s 0 0 % 16 ≡ 0 → is_denial s ≡ true
    → denial.get s ≡ from_status (get_or s 0 0 / 16) (drop 2 s)
denial-mark s z m =
    let h = denial-two s m in
    past-version s (get_or s 0 0) (drop 1 s) (octet-there s 0 (omega (arith, h))) z
    ∙ past-mark (drop 1 s) (get_or s 1 0) (drop 2 s) (octet-there s 1 (omega (arith, h))) _ (eqb-true _ _ m)

-- and behind a status that was read the supplement
pub denial-read : (s : List ℕ) {t : Taken ℕ} → get_or s 0 0 % 16 ≡ 0 → is_denial s ≡ true → NumberAt s 2 One (Ok t)
    → denial.get s ≡ from_supplement (get_or s 0 0 / 16) t.value (drop t.next s)
denial-read s {t} z m e = denial-mark s z m ∙ past-status (drop 2 s) t.value (drop t.next s) e.says _

-- what reads as no denial is told so
pub denial-refused : {s : List ℕ} {f : Fault} → at_end (denial.get s) ≡ bad f → DenialOf s (Err f)
denial-refused {s} {f} e = record { says = rw e (fault-told f); place = tt }

-- two octets are no denial
pub denial-cut : (s : List ℕ) → length s < 3 → is_denial s ≡ true → denial.get s ≡ bad Other
unfolding decode_number
denial-cut [] h m = absurd (false-true m)
denial-cut (v ∷ []) h m = absurd (false-true m)
denial-cut (v ∷ x ∷ []) h m = go (eqb (v % 16) 0) refl
  where
    go : (b : Bool) → eqb (v % 16) 0 ≡ b → denial.get (v ∷ x ∷ []) ≡ bad Other
    go true t =
        past-version (v ∷ x ∷ []) v (x ∷ []) (octet-there (v ∷ x ∷ []) 0 (omega arith)) (eqb-true _ _ t)
        ∙ past-mark (x ∷ []) x [] (octet-there (v ∷ x ∷ []) 1 (omega arith)) _ (eqb-true _ _ m)
    go false t =
        fill-bad (v ∷ x ∷ []) v (x ∷ []) (octet-there (v ∷ x ∷ []) 0 (omega arith))
        (λ q. false-true (sym t ∙ eq-eqb (v % 16) 0 q))
denial-cut (v ∷ x ∷ y ∷ l) h m = absurd (omega arith)

-- ---- which denials may be written

-- one that may has a version and a status within their fields and at most 127 octets of supplement
pub denial-fits : (d : Denial) → denial.fits d ≡ true → (d.version < 16) × (d.status < 256) × (length d.supplement < 128)
denial-fits d h =
    let x = both (version_octet.fits d.version) ((exactly 255).fits tt && (ltb d.status 256 && supplement.fits d.supplement)) h in
    let v = both (ltb (d.version * 16) 256) (eqb (d.version * 16 % 16) 0) x.0 in
    let y = both (ltb d.status 256) (supplement.fits d.supplement) x.1 in
    let z = both (ltb (length d.supplement) 16384) (ltb (length d.supplement) 128) y.1 in
    let w : d.version * 16 < 256 = ltb-true _ _ v.0 in
    (omega arith, ltb-true _ _ y.0, ltb-true _ _ z.1)

-- one with a version over 15 may not
pub denial-version : (d : Denial) → 15 < d.version → denial.fits d ≡ false
denial-version d h = let k : 256 ≤ d.version * 16 = omega arith in rw (le-ltb (d.version * 16) 256 k)

-- one with a supplement over 127 octets may not
pub denial-long : (d : Denial) → 127 < length d.supplement → denial.fits d ≡ false
denial-long d h = rw (le-ltb (length d.supplement) 128 h) (last (version_octet.fits d.version) (ltb d.status 256) (ltb (length d.supplement) 16384))
  where
    last : (a b c : Bool) → (a && (b && (c && false))) ≡ false
    last true true true = refl
    last true true false = refl
    last true false c = refl
    last false b c = refl

-- every other, its status being an octet
pub denial-fit : (d : Denial) → d.version ≤ 15 → d.status < 256 → length d.supplement ≤ 127 → denial.fits d ≡ true
denial-fit d v s n =
    let a : d.version * 16 < 256 = omega arith in
    let b : d.version * 16 % 16 ≡ 0 = omega arith in
    let e : length d.supplement < 16384 = omega arith in
    let f : length d.supplement < 128 = omega arith in
    rw (lt-ltb (d.version * 16) 256 a, eq-eqb (d.version * 16 % 16) 0 b, lt-ltb d.status 256 s, lt-ltb (length d.supplement) 16384 e, lt-ltb (length d.supplement) 128 f)
