-- Lengths and list counts, one rule for every field (document 01, 'Messages'): 0 to 127 in one octet; 128 to 16,383 in two, top bits 10, high part first;
-- no other form, and the shorter form wherever it can hold the number.
use Rattle.std.specs.Prelude.{cond, ℕ, ◌+◌, ◌-◌, ◌*◌, ◌/◌, ◌%◌, List, [], ◌∷◌, ltb, leb}
use Rattle.octets.specs.Reading.{Read, bad, ok}
use Rattle.octets.specs.declared.Fault.TheVariants.{Missing, Longer, High}

-- "0 to 127 in one octet; 128 to 16,383 in two, top bits 10, high part first"
unfoldable pub encode_length : ℕ → List ℕ
encode_length n = cond (ltb n 128) (n ∷ []) ((128 + n / 256) ∷ (n % 256) ∷ [])

-- the second octet of a length whose first is a: "the shorter form wherever it can hold the number"
abbrev pub second_octet : ℕ → List ℕ → Read ℕ
second_octet a [] = bad Missing
second_octet a (b ∷ l) = cond (leb 128 ((a - 128) * 256 + b)) (ok ((a - 128) * 256 + b) l) (bad Longer)

-- a length or a count at the front: "no other form"
unfoldable pub decode_length : List ℕ → Read ℕ
decode_length [] = bad Missing
decode_length (a ∷ l) = cond (ltb a 128) (ok a l) (cond (ltb a 192) (second_octet a l) (bad High))
