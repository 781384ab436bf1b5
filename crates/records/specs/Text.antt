-- The text that the gate log program prints: numbers in decimal, octets in capital hexadecimal, and its three lines.
-- Document 01, 'The gate log program'. A character is its octet in ASCII, and a line ends with the octet 10.
use Rattle.std.specs.Prelude.{cond, ℕ, zero, suc, ◌+◌, ◌/◌, ◌%◌, List, [], ◌∷◌, ◌++◌, ltb}

-- a number in at most so many decimal digits, high digit first and no zero before it
unfoldable pub digits : ℕ → ℕ → List ℕ
digits zero n = []
digits (suc k) n = cond (ltb n 10) ((48 + n) ∷ []) (digits k (n / 10) ++ ((48 + n % 10) ∷ []))

-- ten digits are enough: no number here is above 4,294,967,296
unfoldable pub decimal : ℕ → List ℕ
decimal n = digits 10 n

-- "capital hexadecimal": 0 to 9, and A to F for 10 to 15
unfoldable pub hexadecimal_digit : ℕ → ℕ
hexadecimal_digit n = cond (ltb n 10) (48 + n) (55 + n)

-- an octet is two digits, high part first
abbrev pub pair : ℕ → List ℕ
pair x = hexadecimal_digit (x / 16) ∷ hexadecimal_digit (x % 16) ∷ []

-- octets one after another
unfoldable pub hexadecimal : List ℕ → List ℕ
hexadecimal [] = []
hexadecimal (x ∷ s) = pair x ++ hexadecimal s

-- ---- lines

-- "a space"
abbrev pub space : List ℕ
space = 32 ∷ []

-- the end of a line
abbrev pub line_end : List ℕ
line_end = 10 ∷ []

-- "Per record it prints the record's number from 1, a space, the answer in capital hexadecimal."
unfoldable pub answer_line : ℕ → List ℕ → List ℕ
answer_line n answer = decimal n ++ space ++ hexadecimal answer ++ line_end

-- words, a number and the line's end
unfoldable pub worded : List ℕ → ℕ → List ℕ
worded words n = words ++ decimal n ++ line_end

-- `bad record` with its space
abbrev pub bad_words : List ℕ
bad_words = 98 ∷ 97 ∷ 100 ∷ 32 ∷ 114 ∷ 101 ∷ 99 ∷ 111 ∷ 114 ∷ 100 ∷ 32 ∷ []

-- `records` with its space
abbrev pub records_words : List ℕ
records_words = 114 ∷ 101 ∷ 99 ∷ 111 ∷ 114 ∷ 100 ∷ 115 ∷ 32 ∷ []

-- "prints `bad record`, a space and its number"
abbrev pub bad_record : ℕ → List ℕ
bad_record n = worded bad_words n

-- "the last line is `records`, a space and the number answered"
abbrev pub records : ℕ → List ℕ
records n = worded records_words n
