-- Numbers of a fixed count of octets, high part first; the version octet; a tag's six ignored bits (document 01, 'Messages' and 'Tags').
use Rattle.std.specs.Prelude.{cond, ℕ, zero, suc, ◌+◌, ◌*◌, ◌/◌, ◌%◌, ◌^◌, List, [], ◌∷◌, length, take, drop, leb}
use Rattle.octets.specs.Reading.{Read, bad, ok}
use Rattle.octets.specs.declared.Fault.TheVariants.{Other}
use Rattle.octets.specs.declared.Width.{Width}
use Rattle.octets.specs.declared.Width.TheVariants.{One, Two, Four, Eight}

-- the number that octets stand for, high part first
unfoldable pub number : List ℕ → ℕ
number [] = 0
number (b ∷ l) = b * 256 ^ length l + number l

-- the n low octets of x, high part first
unfoldable pub octets : ℕ → ℕ → List ℕ
octets zero x = []
octets (suc n) x = (x / 256 ^ n % 256) ∷ octets n x

-- a number of n octets at the front
unfoldable pub decode_number : ℕ → List ℕ → Read ℕ
decode_number n l = cond (leb n (length l)) (ok (number (take n l)) (drop n l)) (bad Other)

-- how many octets a number's field has: the tables have one, two, four and eight
abbrev pub width_of : Width → ℕ
width_of One = 1
width_of Two = 2
width_of Four = 4
width_of Eight = 8

-- "version in the high four bits with four zero fill bits": the version of such an octet
abbrev pub version_part : ℕ → ℕ
version_part b = b / 16

-- and its four fill bits
abbrev pub fill_part : ℕ → ℕ
fill_part b = b % 16

-- a tag as it is compared: "the low six bits of its first octet are ignored, and in the unit's answers they are zero".
-- Bits 7 and 6 of that octet stay, and the address: "Octets 2 to 8 are the address."
unfoldable pub bare : ℕ → ℕ
bare t = t / 2 ^ 62 * 2 ^ 62 + t % 2 ^ 56
