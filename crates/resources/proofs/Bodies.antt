-- Allocation and resource information: they read back, how long they are, and which values fit.
use Prim.Native.Nat.{ℕ, ◌+◌, ◌*◌, ◌^◌, ◌<◌, ◌≤◌}
use mathlib.Core.Path.{◌≡◌, refl}
use mathlib.Core.Bool.{Bool, true, false, ◌&&◌, ◌||◌}
use mathlib.Core.List.{List, ◌++◌}
use native.Mathlib.Omega.{arith}
use lib.ListN.{length, get_or, length-append}
use lib.Dec.{ltb, leb, eqb}
use borrow.Author.Tests.{lt-ltb, le-leb, lt-leb, leb-false, eq-eqb, eqb-true}
use Rattle.octets.specs.Length.{encode_length}
use Rattle.octets.specs.Layout.{Layout, numeral, seq, put_all}
use Rattle.octets.specs.declared.Form.{Form}
use Rattle.octets.proofs.Places.{both}
use Rattle.octets.proofs.Numbers.{length-octets}
use Rattle.std.proofs.lemmas.List.Sums.{AllPass-from_list_all}
use Rattle.std.proofs.lemmas.List.Elements.{All-get_or}
use Rattle.octets.proofs.Lists.{length-listed, put-even, fit-listed}
use Rattle.octets.proofs.Lawful.{Lawful, numeral-lawful, data-lawful, seq-lawful, via-lawful, only-lawful, list_lawful}
use Rattle.tags.specs.Entry.{lock, lock_size}
use Rattle.tags.proofs.Entries.{lock-lawful, length-lock}
use Rattle.resources.specs.Resource.{mode_known, mode, Grant, grant_of, grant_parts, allocation, room_of, room_parts, room, resource_of, resource_parts, resource, resources, resource_at, resources_of, every_mode, alongside}
use Rattle.resources.specs.declared.Room.{Room}
use Rattle.resources.specs.declared.Resource.{Resource}
use Rattle.resources.proofs.Entries.{unfit-listed}

-- ---- the round trips

pub mode-lawful : Lawful mode
mode-lawful = only-lawful mode_known (numeral 1) (numeral-lawful 1)

-- fields one after the other
then : {A B : Type 0} {L : Layout A} {M : Layout B} → Lawful L → Lawful M → Lawful (seq L M)
then {L = L} {M = M} p q = seq-lawful L M p q

pub allocation-lawful : (w : Form) → Lawful (allocation w)
allocation-lawful w = via-lawful grant_of grant_parts _ (λ a h. refl) (λ b h. refl) (then (numeral-lawful 8) (then mode-lawful (then (numeral-lawful 4) (then (lock-lawful w) data-lawful))))

pub room-lawful : Lawful room
room-lawful = via-lawful room_of room_parts _ (λ a h. refl) (λ b h. refl)
    (then (numeral-lawful 4) (then (numeral-lawful 2) (then (numeral-lawful 4) (then (numeral-lawful 2) (then (numeral-lawful 4) (numeral-lawful 2))))))

pub resource-lawful : Lawful resource
resource-lawful = via-lawful resource_of resource_parts _ (λ a h. refl) (λ b h. refl) (then (numeral-lawful 8) (then mode-lawful (then (numeral-lawful 4) (numeral-lawful 4))))

pub resources-lawful : Lawful resources
resources-lawful = then room-lawful (list_lawful resource resource-lawful)

-- ---- lengths

pub length-allocation : (w : Form) (g : Grant) → length ((allocation w).put g) ≡ 13 + lock_size w + length (encode_length (length g.initial)) + length g.initial
length-allocation w g = simp (length-append, length-octets, length-lock) (omega arith)

pub length-room : (x : Room) → length (room.put x) ≡ 18
length-room x = simp (length-append, length-octets)

pub length-resource : (x : Resource) → length (resource.put x) ≡ 17
length-resource x = simp (length-append, length-octets)

-- ---- reading and writing both prohibited is no mode

pub mode-both : (n : ℕ) → n ≡ 3 → mode_known n ≡ false
unfolding mode_known
mode-both n e = rw e

-- below 7 it is the one that is none, and from 7 on there is none
pub mode-is : (n : ℕ) → n < 7 → (n ≡ 3 → ⊥) → mode_known n ≡ true
unfolding mode_known
mode-is n h k = go (leb n 2) refl
  where
    go : (b : Bool) → leb n 2 ≡ b → (b || (leb 4 n && leb n 6)) ≡ true
    go true e = refl
    go false e =
        let l : 4 ≤ n = omega (arith, leb-false n 2 e, k) in
        let g : n ≤ 6 = omega arith in
        rw (le-leb 4 n l, le-leb n 6 g)

pub mode-high : (n : ℕ) → 7 ≤ n → mode_known n ≡ false
unfolding mode_known
mode-high n h = let j : 2 < n = omega arith in let g : 4 ≤ n = omega arith in rw (lt-leb n 2 j, le-leb 4 n g, lt-leb n 6 h)

-- ---- which values fit

module _ (w : Form) (g : Grant) where
  pub allocation-fits : g.tag < 256 ^ 8 → g.mode < 256 ^ 1 → mode_known g.mode ≡ true → g.size < 256 ^ 4 → (lock w).fits g.access ≡ true → length g.initial < 16384
      → (allocation w).fits g ≡ true
  allocation-fits t m k s l d = rw (lt-ltb g.tag (256 ^ 8) t, lt-ltb g.mode (256 ^ 1) m, k, lt-ltb g.size (256 ^ 4) s, l, lt-ltb (length g.initial) 16384 d)

  pub allocation-unfit : mode_known g.mode ≡ false → (allocation w).fits g ≡ false
  allocation-unfit e = rw e (second (ltb g.tag (256 ^ 8)) (ltb g.mode (256 ^ 1)) _)
    where
      second : (a b c : Bool) → (a && ((b && false) && c)) ≡ false
      second true true c = refl
      second true false c = refl
      second false b c = refl

pub room_fits : (x : Room) → x.largest < 256 ^ 4 → x.tags < 256 ^ 2 → x.octets < 256 ^ 4 → x.volatile_tags < 256 ^ 2 → x.volatile_octets < 256 ^ 4 → x.entries < 256 ^ 2
    → room.fits x ≡ true
room_fits x a b c d e f =
    rw (lt-ltb x.largest (256 ^ 4) a, lt-ltb x.tags (256 ^ 2) b, lt-ltb x.octets (256 ^ 4) c, lt-ltb x.volatile_tags (256 ^ 2) d, lt-ltb x.volatile_octets (256 ^ 4) e, lt-ltb x.entries (256 ^ 2) f)

pub resource-fits : (x : Resource) → x.tag < 256 ^ 8 → x.mode < 256 ^ 1 → mode_known x.mode ≡ true → x.held < 256 ^ 4 → x.size < 256 ^ 4 → resource.fits x ≡ true
resource-fits x t m k h s = rw (lt-ltb x.tag (256 ^ 8) t, lt-ltb x.mode (256 ^ 1) m, k, lt-ltb x.held (256 ^ 4) h, lt-ltb x.size (256 ^ 4) s)

-- an entry that fits has a known mode
resource-mode : (x : Resource) → resource.fits x ≡ true → mode_known x.mode ≡ true
resource-mode x h =
    let b = both (ltb x.tag (256 ^ 8)) ((ltb x.mode (256 ^ 1) && mode_known x.mode) && (ltb x.held (256 ^ 4) && ltb x.size (256 ^ 4))) h in
    let d = both (ltb x.mode (256 ^ 1) && mode_known x.mode) (ltb x.held (256 ^ 4) && ltb x.size (256 ^ 4)) b.1 in
    (both (ltb x.mode (256 ^ 1)) (mode_known x.mode) d.0).1

-- ---- the message that slices side by side describe

module _ (tags modes held sizes : List ℕ) where
  -- slices that are not all of one length
  pub apart : (length modes ≡ length tags → length held ≡ length tags → length sizes ≡ length tags → ⊥) → alongside tags modes held sizes ≡ false
  unfolding alongside
  apart h = go (alongside tags modes held sizes) refl
    where
      go : (b : Bool) → alongside tags modes held sizes ≡ b → b ≡ false
      go true e =
          let f = both (eqb (length modes) (length tags) && eqb (length held) (length tags)) (eqb (length sizes) (length tags)) e in
          let g = both (eqb (length modes) (length tags)) (eqb (length held) (length tags)) f.0 in
          absurd (h (eqb-true _ _ g.0) (eqb-true _ _ g.1) (eqb-true _ _ f.1))
      go false e = refl

  -- slices of one length
  pub are-alongside : length modes ≡ length tags → length held ≡ length tags → length sizes ≡ length tags → alongside tags modes held sizes ≡ true
  unfolding alongside
  are-alongside m h k = rw (eq-eqb (length modes) (length tags) m, eq-eqb (length held) (length tags) h, eq-eqb (length sizes) (length tags) k)

  abbrev all : List Resource
  all = resources_of tags modes held sizes

  pub length-resources : (x : Room) → length (resources.put (x, all)) ≡ 18 + length (encode_length (length tags)) + 17 * length tags
  length-resources x =
      let n = put-even resource (resource_at tags modes held sizes) 17 length-resource (length tags) in
      rw (length-append (room.put x) (encode_length (length all) ++ put_all resource all), length-append (encode_length (length all)) (put_all resource all), length-room x, length-listed (resource_at tags modes held sizes) (length tags))
      (omega arith)

  pub resources-unfit : (x : Room) → length modes ≡ length tags → every_mode modes ≡ false → resources.fits (x, all) ≡ false
  resources-unfit x m e =
      let u = unfit-listed resource (resource_at tags modes held sizes) mode_known modes 0 (λ i. resource-mode (resource_at tags modes held sizes i)) e in
      rw (rw m at u) (last (room.fits x) (ltb (length all) 16384))
    where
      last : (a b : Bool) → (a && (b && false)) ≡ false
      last true true = refl
      last true false = refl
      last false b = refl

  pub resources-fit : (x : Room) → room.fits x ≡ true → length tags < 16384 → length modes ≡ length tags → every_mode modes ≡ true
      → ((i : ℕ) → get_or tags i 0 < 256 ^ 8) → ((i : ℕ) → get_or modes i 0 < 256 ^ 1) → ((i : ℕ) → get_or held i 0 < 256 ^ 4) → ((i : ℕ) → get_or sizes i 0 < 256 ^ 4)
      → resources.fits (x, all) ≡ true
  resources-fit x r n m e t d h s =
      let k : (i : ℕ) → i < length tags → mode_known (get_or modes i 0) ≡ true = λ i l. All-get_or (λ y. mode_known y ≡ true) modes i 0 (rw m l) (AllPass-from_list_all mode_known modes e) in
      let a = fit-listed resource (resource_at tags modes held sizes) (length tags) (λ i l. resource-fits (resource_at tags modes held sizes i) (t i) (d i) (k i l) (h i) (s i)) in
      rw (r, length-listed (resource_at tags modes held sizes) (length tags), lt-ltb (length tags) 16384 n, a)
