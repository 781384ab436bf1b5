-- The definitions of a field, of the frame and of a lent area at their boundaries: tables, each proved by computation. Document 01, 'Messages', 'Tags' and
-- 'Denials and their order'.
use Prim.Native.Nat.{ℕ, ◌+◌}
use mathlib.Core.Path.{◌≡◌, refl}
use mathlib.Core.Bool.{Bool, true, false}
use mathlib.Core.List.{List, [], ◌∷◌, map}
use lib.Dec.{ltb}
use lib.ListN.{replicate}
use Rattle.octets.specs.Reading.{Read, bad, ok, fault_number}
use Rattle.octets.specs.Length.{encode_length, decode_length}
use Rattle.octets.specs.Number.{number, octets, decode_number, width_of, version_part, fill_part, bare}
use Rattle.octets.specs.Layout.{numeral, size, data', field_octets, list_of, listed, every}
use Rattle.octets.specs.Area.{Outcome, done, refused, outcome, laid, past, written, described}
use Rattle.octets.specs.Frame.{opening, openable, opened}
use Rattle.octets.specs.View.{within, entries_in}
use Rattle.octets.specs.declared.Fault.TheVariants.{Missing, Longer, High, Other}
use Rattle.octets.specs.declared.Width.TheVariants.{One, Two, Four, Eight}
use Rattle.std.specs.Prelude.{Ok, Err}
use Rattle.octets.specs.declared.Unwritten.TheVariants.{Refused, NoRoom}

-- what is computed, and what it has to be
module _ {A : Type 0} where
  abbrev is : List (A × A) → List A
  is rows = map (λ (x : A × A). x.0) rows

  abbrev should : List (A × A) → List A
  should rows = map (λ (x : A × A). x.1) rows

-- ---- octets that are written

abbrev puts : List (List ℕ × List ℕ)
puts =
    -- "0 to 127 in one octet; 128 to 16,383 in two, top bits 10, high part first"
    (encode_length 0, 0x00 ∷ [])
    ∷ (encode_length 127, 0x7F ∷ [])
    ∷ (encode_length 128, 0x80 ∷ 0x80 ∷ [])
    ∷ (encode_length 256, 0x81 ∷ 0x00 ∷ [])
    ∷ (encode_length 16383, 0xBF ∷ 0xFF ∷ [])
    -- a length that has no form is not written
    ∷ (field_octets size 16383, 0xBF ∷ 0xFF ∷ [])
    ∷ (field_octets size 16384, [])
    -- numbers, high part first; of a number that is too great, the low octets
    ∷ (octets 0 7, [])
    ∷ (octets 1 256, 0x00 ∷ [])
    ∷ (octets 2 0x0102, 0x01 ∷ 0x02 ∷ [])
    ∷ (octets 4 0x01020304, 0x01 ∷ 0x02 ∷ 0x03 ∷ 0x04 ∷ [])
    ∷ (octets 8 0xFF00000000000001, 0xFF ∷ 0 ∷ 0 ∷ 0 ∷ 0 ∷ 0 ∷ 0 ∷ 0x01 ∷ [])
    -- the frame: version 15, and a body's length in one octet and in two
    ∷ (opening 15 3 127, 0xF0 ∷ 1 ∷ 3 ∷ 0 ∷ 0x7F ∷ [])
    ∷ (opening 0 70 128, 0x00 ∷ 1 ∷ 70 ∷ 0 ∷ 0x80 ∷ 0x80 ∷ [])
    -- a field at a place of three octets: it ends where they end, it is one too long, it leaves what is behind
    ∷ (laid (1 ∷ 2 ∷ 3 ∷ []) 1 (8 ∷ 9 ∷ []), 1 ∷ 8 ∷ 9 ∷ [])
    ∷ (laid (1 ∷ 2 ∷ 3 ∷ []) 2 (8 ∷ 9 ∷ []), 1 ∷ 2 ∷ 3 ∷ [])
    ∷ (laid (1 ∷ 2 ∷ 3 ∷ []) 0 (8 ∷ []), 8 ∷ 2 ∷ 3 ∷ [])
    -- a part of the octets, the whole, and one that ends behind them
    ∷ (within (1 ∷ 2 ∷ 3 ∷ []) (record { start = 1; len = 1 }), 2 ∷ [])
    ∷ (within (1 ∷ 2 ∷ 3 ∷ []) (record { start = 0; len = 3 }), 1 ∷ 2 ∷ 3 ∷ [])
    ∷ (within (1 ∷ 2 ∷ 3 ∷ []) (record { start = 2; len = 2 }), 3 ∷ [])
    -- entries in their order, and from a place on; too few octets are none
    ∷ (listed (λ i. i + 7) 3, 7 ∷ 8 ∷ 9 ∷ [])
    ∷ (listed (λ i. i + 7) 0, [])
    ∷ (entries_in (numeral 1) (1 ∷ 2 ∷ 3 ∷ []) (record { start = 1; count = 2 }), 2 ∷ 3 ∷ [])
    ∷ (entries_in (numeral 1) (1 ∷ 2 ∷ 3 ∷ []) (record { start = 1; count = 3 }), [])
    ∷ []

pub puts-hold : is puts ≡ should puts
unfolding encode_length octets opening laid decode_number number
puts-hold = refl

-- ---- octets that are read

abbrev gets : List (Read ℕ × Read ℕ)
gets =
    -- one octet, two, and what stands behind
    (decode_length (0x00 ∷ 0xAA ∷ []), ok 0 (0xAA ∷ []))
    ∷ (decode_length (0x7F ∷ 0xAA ∷ []), ok 127 (0xAA ∷ []))
    ∷ (decode_length (0x80 ∷ 0x80 ∷ 0xAA ∷ []), ok 128 (0xAA ∷ []))
    ∷ (decode_length (0x81 ∷ 0x00 ∷ []), ok 256 [])
    ∷ (decode_length (0xBF ∷ 0xFF ∷ []), ok 16383 [])
    -- octets are missing
    ∷ (decode_length [], bad Missing)
    ∷ (decode_length (0x80 ∷ []), bad Missing)
    ∷ (decode_length (0xBF ∷ []), bad Missing)
    -- "the shorter form wherever it can hold the number"
    ∷ (decode_length (0x80 ∷ 0x00 ∷ []), bad Longer)
    ∷ (decode_length (0x80 ∷ 0x7F ∷ []), bad Longer)
    -- "no other form"
    ∷ (decode_length (0xC0 ∷ []), bad High)
    ∷ (decode_length (0xC0 ∷ 0x00 ∷ 0x00 ∷ []), bad High)
    ∷ (decode_length (0xFF ∷ []), bad High)
    -- numbers, high part first, and one octet short
    ∷ (decode_number 2 (0x01 ∷ 0x02 ∷ 0xAA ∷ []), ok 0x0102 (0xAA ∷ []))
    ∷ (decode_number 2 (0x01 ∷ []), bad Other)
    ∷ (decode_number 8 (0xFF ∷ 0 ∷ 0 ∷ 0 ∷ 0 ∷ 0 ∷ 0 ∷ 0x01 ∷ []), ok 0xFF00000000000001 [])
    ∷ (decode_number 8 (0xFF ∷ 0 ∷ 0 ∷ 0 ∷ 0 ∷ 0 ∷ 0 ∷ []), bad Other)
    ∷ []

pub gets-hold : is gets ≡ should gets
unfolding decode_length decode_number number
gets-hold = refl

-- ---- numbers

abbrev numbers : List (ℕ × ℕ)
numbers =
    -- the octets of a number's field
    (width_of One, 1)
    ∷ (width_of Two, 2)
    ∷ (width_of Four, 4)
    ∷ (width_of Eight, 8)
    -- "version in the high four bits with four zero fill bits"
    ∷ (version_part 0x0F, 0)
    ∷ (version_part 0x10, 1)
    ∷ (version_part 0xFF, 15)
    ∷ (fill_part 0xF0, 0)
    ∷ (fill_part 0x18, 8)
    ∷ (fill_part 0xFF, 15)
    -- "the low six bits of its first octet are ignored": bits 7 and 6 stay, and the address
    ∷ (bare 0x3F11223344556677, 0x0011223344556677)
    ∷ (bare 0x0011223344556677, 0x0011223344556677)
    ∷ (bare 0x4111223344556677, 0x4011223344556677)
    ∷ (bare 0xA011223344556677, 0x8011223344556677)
    ∷ (bare 0xFFFFFFFFFFFFFFFF, 0xC0FFFFFFFFFFFFFF)
    -- a fault of each kind is 16
    ∷ (fault_number Missing, 16)
    ∷ (fault_number Longer, 16)
    ∷ (fault_number High, 16)
    ∷ (fault_number Other, 16)
    -- where the next field starts: behind two octets that end with the area, at the place of two that do not fit, and of none past the end
    ∷ (past (1 ∷ 2 ∷ 3 ∷ []) 1 (8 ∷ 9 ∷ []), 3)
    ∷ (past (1 ∷ 2 ∷ 3 ∷ []) 2 (8 ∷ 9 ∷ []), 2)
    ∷ (past (1 ∷ 2 ∷ 3 ∷ []) 4 [], 4)
    ∷ []

pub numbers-hold : is numbers ≡ should numbers
unfolding bare past
numbers-hold = refl

-- ---- what may be written

abbrev tests : List (Bool × Bool)
tests =
    -- "a number is too great for its field"
    ((numeral 1).fits 255, true)
    ∷ ((numeral 1).fits 256, false)
    ∷ ((numeral 8).fits 0xFFFFFFFFFFFFFFFF, true)
    ∷ ((numeral 8).fits 0x10000000000000000, false)
    -- lengths, data and lists: 16,383 at most
    ∷ (size.fits 16383, true)
    ∷ (size.fits 16384, false)
    ∷ (data'.fits (replicate 16383 0), true)
    ∷ (data'.fits (replicate 16384 0), false)
    ∷ ((list_of (numeral 1)).fits (replicate 16383 0), true)
    ∷ ((list_of (numeral 1)).fits (replicate 16384 0), false)
    -- the first entry does not fit, the last
    ∷ ((list_of (numeral 1)).fits (256 ∷ 1 ∷ []), false)
    ∷ ((list_of (numeral 1)).fits (1 ∷ 256 ∷ []), false)
    -- "the version is above 15", "the message would exceed 2,048 octets"
    ∷ (openable 15 3 2042, true)
    ∷ (openable 16 3 2042, false)
    ∷ (openable 15 3 2043, false)
    -- a test at no place; it fails at the last of three, at the first, and only behind the last
    ∷ (every (λ i. false) 0, true)
    ∷ (every (λ i. ltb i 2) 3, false)
    ∷ (every (λ i. ltb 0 i) 3, false)
    ∷ (every (λ i. ltb i 3) 3, true)
    ∷ []

pub tests-hold : is tests ≡ should tests
unfolding openable opening encode_length
tests-hold = refl

-- ---- what a writer answers and leaves

abbrev outcomes : List (Outcome × Outcome)
outcomes =
    (outcome (Ok 7), done 7)
    ∷ (outcome (Err Refused), refused 16)
    ∷ (outcome (Err NoRoom), refused 300)
    ∷ []

pub outcomes-hold : is outcomes ≡ should outcomes
outcomes-hold = refl

abbrev leaves : List ((Outcome × List ℕ) × (Outcome × List ℕ))
leaves =
    -- the area is as long as the message, longer, shorter; 16 before 300
    (written true (8 ∷ 9 ∷ []) (1 ∷ 2 ∷ []), (done 2, 8 ∷ 9 ∷ []))
    ∷ (written true (8 ∷ 9 ∷ []) (1 ∷ 2 ∷ 3 ∷ []), (done 2, 8 ∷ 9 ∷ 3 ∷ []))
    ∷ (written true (8 ∷ 9 ∷ []) (1 ∷ []), (refused 300, 1 ∷ []))
    ∷ (written false (8 ∷ 9 ∷ []) (1 ∷ 2 ∷ []), (refused 16, 1 ∷ 2 ∷ []))
    ∷ (written false (8 ∷ 9 ∷ []) (1 ∷ []), (refused 16, 1 ∷ []))
    -- slices that describe no message: the same 16
    ∷ (described true (written true (8 ∷ []) (1 ∷ 2 ∷ [])) (1 ∷ 2 ∷ []), (done 1, 8 ∷ 2 ∷ []))
    ∷ (described false (written true (8 ∷ []) (1 ∷ 2 ∷ [])) (1 ∷ 2 ∷ []), (refused 16, 1 ∷ 2 ∷ []))
    ∷ (described false (written true (8 ∷ []) []) [], (refused 16, []))
    -- opening asks room for the body as well, and writes what stands before it
    ∷ (opened 1 3 1 (0 ∷ 0 ∷ 0 ∷ 0 ∷ 0 ∷ 7 ∷ []), (done 5, 0x10 ∷ 1 ∷ 3 ∷ 0 ∷ 1 ∷ 7 ∷ []))
    ∷ (opened 1 3 2 (0 ∷ 0 ∷ 0 ∷ 0 ∷ 0 ∷ 7 ∷ []), (refused 300, 0 ∷ 0 ∷ 0 ∷ 0 ∷ 0 ∷ 7 ∷ []))
    ∷ (opened 16 3 2 (7 ∷ []), (refused 16, 7 ∷ []))
    ∷ (opened 1 3 2043 (7 ∷ []), (refused 16, 7 ∷ []))
    ∷ []

pub leaves-hold : is leaves ≡ should leaves
unfolding written opened openable opening encode_length
leaves-hold = refl
