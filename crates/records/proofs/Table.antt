-- Worked logs, one table with one proof, by computation: document 01's sixteen octets; an empty log; a log cut at every place; every kind of bad record; the longest
-- request; a unit that changes between records; each port; a password; numbers in decimal, octets in hexadecimal and the limit of the count. And one turn, with more
-- octets to come or none, and the area for its lines.
use Prim.Native.Nat.{ℕ}
use mathlib.Core.Bool.{true, false}
use mathlib.Core.Path.{◌≡◌, refl}
use mathlib.Core.List.{List, [], ◌∷◌, ◌++◌, map}
use lib.ListN.{take, replicate}
use Rattle.octets.specs.Length.{encode_length, decode_length}
use Rattle.octets.specs.Number.{number, octets, decode_number, bare}
use Rattle.octets.specs.Frame.{opening, heading, enclosed, decode, encode, receive}
use Rattle.resources.specs.Resource.{mode_known}
use Rattle.requests.specs.Command.{known}
use Rattle.requests.specs.Request.{request_body}
use Rattle.answers.specs.Answer.{answer_body}
use Rattle.admission.specs.Admission.{unit_managed, admission}
use Rattle.rows.specs.Keyed.{look, change}
use Rattle.rows.proofs.Table.{is, should}
use Rattle.store.specs.Model.{total}
use Rattle.store.specs.Steps.{registered, allocate_step, write_step, read_step}
use Rattle.responder.specs.Respond.{allocate_done, write_done, read_done, bulk_read_done, act, fitted, first_lines, handled, respond}
use Rattle.records.specs.Text.{digits, decimal, hexadecimal_digit, hexadecimal, answer_line, worded, bad_record, records}
use Rattle.records.specs.Record.{front, front_after}
use Rattle.records.specs.Output.{output_within, output_from, output, first_unit}
use Rattle.records.specs.Turn.{Turned, more, answered, ended, turn}
use Rattle.records.specs.Entry.{Word, closed, refusal, over, step_out}

-- "For the octets 4D 41 00 00 01 20 4D 41 00 00 05 10 01 07 00 00 the whole output is"
abbrev pub sixteen : List ℕ
sixteen = 0x4d ∷ 0x41 ∷ 0x00 ∷ 0x00 ∷ 0x01 ∷ 0x20 ∷ 0x4d ∷ 0x41 ∷ 0x00 ∷ 0x00 ∷ 0x05 ∷ 0x10 ∷ 0x01 ∷ 0x07 ∷ 0x00 ∷ 0x00 ∷ []

-- `1 10FF040110`, `2 10FF0C00`, `records 2`
abbrev first_line : List ℕ
first_line = 49 ∷ 32 ∷ 49 ∷ 48 ∷ 70 ∷ 70 ∷ 48 ∷ 52 ∷ 48 ∷ 49 ∷ 49 ∷ 48 ∷ 10 ∷ []

abbrev second_line : List ℕ
second_line = 50 ∷ 32 ∷ 49 ∷ 48 ∷ 70 ∷ 70 ∷ 48 ∷ 67 ∷ 48 ∷ 48 ∷ 10 ∷ []

-- `records n` and `bad record n` for a digit
abbrev records_digit : ℕ → List ℕ
records_digit c = 114 ∷ 101 ∷ 99 ∷ 111 ∷ 114 ∷ 100 ∷ 115 ∷ 32 ∷ c ∷ 10 ∷ []

abbrev bad_digit : ℕ → List ℕ
bad_digit c = 98 ∷ 97 ∷ 100 ∷ 32 ∷ 114 ∷ 101 ∷ 99 ∷ 111 ∷ 114 ∷ 100 ∷ 32 ∷ c ∷ 10 ∷ []

-- cut within the first record, and within the second
abbrev cut_first : List ℕ
cut_first = bad_digit 49 ++ records_digit 48

abbrev cut_second : List ℕ
cut_second = first_line ++ bad_digit 50 ++ records_digit 49

-- what stands before a request of so many octets, fewer than 256, on port 0 and on port 1
abbrev normal : ℕ → List ℕ
normal n = 0x4d ∷ 0x41 ∷ 0x00 ∷ 0x00 ∷ n ∷ []

abbrev secure : ℕ → List ℕ
secure n = 0x4d ∷ 0x41 ∷ 0x01 ∷ 0x00 ∷ n ∷ []

-- document 01's K and P
abbrev k : List ℕ
k = 0x00 ∷ 0x11 ∷ 0x22 ∷ 0x33 ∷ 0x44 ∷ 0x55 ∷ 0x66 ∷ 0x77 ∷ []

abbrev p : List ℕ
p = 0x01 ∷ 0x02 ∷ 0x03 ∷ 0x04 ∷ 0x05 ∷ 0x06 ∷ 0x07 ∷ 0x08 ∷ []

-- allocate K with area 8 and both modes; the same with SPF; the same with P
abbrev allocate : List ℕ
allocate = (0x10 ∷ 0x01 ∷ 0x01 ∷ 0x00 ∷ 0x0e ∷ []) ++ k ++ (0x00 ∷ 0x00 ∷ 0x00 ∷ 0x00 ∷ 0x08 ∷ 0x00 ∷ [])

abbrev allocate_spf : List ℕ
allocate_spf = (0x10 ∷ 0x01 ∷ 0x01 ∷ 0x00 ∷ 0x0e ∷ []) ++ k ++ (0x04 ∷ 0x00 ∷ 0x00 ∷ 0x00 ∷ 0x08 ∷ 0x00 ∷ [])

abbrev allocate_password : List ℕ
allocate_password = (0x10 ∷ 0x01 ∷ 0x41 ∷ 0x00 ∷ 0x16 ∷ []) ++ k ++ (0x00 ∷ 0x00 ∷ 0x00 ∷ 0x00 ∷ 0x08 ∷ []) ++ p ++ (0x00 ∷ [])

-- write eight octets to K; read K; read K with P
abbrev eight : List ℕ
eight = 0x01 ∷ 0x23 ∷ 0x45 ∷ 0x67 ∷ 0x89 ∷ 0xab ∷ 0xcd ∷ 0xef ∷ []

abbrev write : List ℕ
write = (0x10 ∷ 0x01 ∷ 0x04 ∷ 0x00 ∷ 0x11 ∷ []) ++ k ++ (0x08 ∷ eight)

abbrev read : List ℕ
read = (0x10 ∷ 0x01 ∷ 0x03 ∷ 0x00 ∷ 0x08 ∷ []) ++ k

abbrev read_password : List ℕ
read_password = (0x10 ∷ 0x01 ∷ 0x43 ∷ 0x00 ∷ 0x10 ∷ []) ++ k ++ p

-- the answer of a type that names K alone; a denial
abbrev named : ℕ → List ℕ
named type = (0x10 ∷ 0x01 ∷ type ∷ 0x00 ∷ 0x08 ∷ []) ++ k

abbrev denied : ℕ → List ℕ
denied status = 0x10 ∷ 0xff ∷ status ∷ 0x00 ∷ []

-- K is read: it holds nothing; it holds the eight octets
abbrev holds_nothing : ℕ → List ℕ
holds_nothing type = (0x10 ∷ 0x01 ∷ type ∷ 0x00 ∷ 0x09 ∷ []) ++ k ++ (0x00 ∷ [])

abbrev holds_eight : ℕ → List ℕ
holds_eight type = (0x10 ∷ 0x01 ∷ type ∷ 0x00 ∷ 0x11 ∷ []) ++ k ++ (0x08 ∷ eight)

-- a bulk read of 255 tags, 2,048 octets
abbrev longest : List ℕ
longest = (0x10 ∷ 0x01 ∷ 0x05 ∷ 0x00 ∷ 0x87 ∷ 0xfa ∷ 0x80 ∷ 0xff ∷ []) ++ replicate 2040 0x00

-- a log and its output
abbrev table : List (List ℕ × List ℕ)
table =
    (sixteen, first_line ++ second_line ++ records_digit 50)
    ∷ ([], records_digit 48)
    ∷ (take 1 sixteen, cut_first)
    ∷ (take 2 sixteen, cut_first)
    ∷ (take 3 sixteen, cut_first)
    ∷ (take 4 sixteen, cut_first)
    ∷ (take 5 sixteen, cut_first)
    ∷ (take 6 sixteen, first_line ++ records_digit 49)
    ∷ (take 7 sixteen, cut_second)
    ∷ (take 8 sixteen, cut_second)
    ∷ (take 9 sixteen, cut_second)
    ∷ (take 10 sixteen, cut_second)
    ∷ (take 11 sixteen, cut_second)
    ∷ (take 12 sixteen, cut_second)
    ∷ (take 13 sixteen, cut_second)
    ∷ (take 14 sixteen, cut_second)
    ∷ (take 15 sixteen, cut_second)
    -- a wrong first octet of the mark, a wrong second one, port 2, a length of 2,049
    ∷ (0x4c ∷ [], cut_first)
    ∷ (0x41 ∷ 0x4d ∷ 0x00 ∷ 0x00 ∷ 0x00 ∷ [], cut_first)
    ∷ (0x4d ∷ 0x42 ∷ 0x00 ∷ 0x00 ∷ 0x00 ∷ [], cut_first)
    ∷ (0x4d ∷ 0x41 ∷ 0x02 ∷ 0x00 ∷ 0x00 ∷ [], cut_first)
    ∷ (0x4d ∷ 0x41 ∷ 0x00 ∷ 0x08 ∷ 0x01 ∷ [], cut_first)
    -- one octet behind the second record
    ∷ (sixteen ++ (0x00 ∷ []), first_line ++ second_line ++ bad_digit 51 ++ records_digit 50)
    -- a request of 2,048 octets, and a record behind it; one of 2,049, with all its octets
    ∷ ((0x4d ∷ 0x41 ∷ 0x00 ∷ 0x08 ∷ 0x00 ∷ []) ++ longest ++ normal 0, answer_line 1 (denied 7) ++ answer_line 2 (denied 16) ++ records_digit 50)
    ∷ ((0x4d ∷ 0x41 ∷ 0x00 ∷ 0x08 ∷ 0x01 ∷ []) ++ longest ++ (0x00 ∷ []), cut_first)
    -- the unit changes between records
    ∷ (normal 13 ++ read ++ normal 19 ++ allocate ++ normal 22 ++ write ++ normal 13 ++ read, answer_line 1 (denied 6) ++ answer_line 2 (named 0x81) ++ answer_line 3 (named 0x84) ++ answer_line 4 (holds_eight 0x83) ++ records_digit 52)
    -- a tag with SPF is read on port 1 alone
    ∷ (normal 19 ++ allocate_spf ++ normal 13 ++ read ++ secure 13 ++ read, answer_line 1 (named 0x81) ++ answer_line 2 (denied 11) ++ answer_line 3 (holds_nothing 0x83) ++ records_digit 51)
    -- a tag with a password is read with it alone
    ∷ (normal 27 ++ allocate_password ++ normal 13 ++ read ++ normal 21 ++ read_password, answer_line 1 (named 0xc1) ++ answer_line 2 (denied 10) ++ answer_line 3 (holds_nothing 0xc3) ++ records_digit 51)
    ∷ []

-- numbers in decimal
abbrev numbers : List (ℕ × List ℕ)
numbers =
    (0, 48 ∷ [])
    ∷ (9, 57 ∷ [])
    ∷ (10, 49 ∷ 48 ∷ [])
    ∷ (99, 57 ∷ 57 ∷ [])
    ∷ (100, 49 ∷ 48 ∷ 48 ∷ [])
    ∷ (4294967295, 52 ∷ 50 ∷ 57 ∷ 52 ∷ 57 ∷ 54 ∷ 55 ∷ 50 ∷ 57 ∷ 53 ∷ [])
    ∷ (4294967296, 52 ∷ 50 ∷ 57 ∷ 52 ∷ 57 ∷ 54 ∷ 55 ∷ 50 ∷ 57 ∷ 54 ∷ [])
    ∷ []

-- the empty request twice, with 4,294,967,294 and with 4,294,967,295 answered before: the first is the 4,294,967,295th record, the next one too many
abbrev empty : List ℕ
empty = 0x4d ∷ 0x41 ∷ 0x00 ∷ 0x00 ∷ 0x00 ∷ []

abbrev last_lines : List ℕ
last_lines = bad_record 4294967296 ++ records 4294967295

-- the sixteen digits of hexadecimal
abbrev sixteen_digits : List ℕ
sixteen_digits = 48 ∷ 49 ∷ 50 ∷ 51 ∷ 52 ∷ 53 ∷ 54 ∷ 55 ∷ 56 ∷ 57 ∷ 65 ∷ 66 ∷ 67 ∷ 68 ∷ 69 ∷ 70 ∷ []

-- the table, the numbers, the digits and the limit of the count
pub worked :
    (map (λ (r : List ℕ × List ℕ). output r.0) table ≡ map (λ (r : List ℕ × List ℕ). r.1) table)
    × (map (λ (r : ℕ × List ℕ). decimal r.0) numbers ≡ map (λ (r : ℕ × List ℕ). r.1) numbers)
    × (hexadecimal eight ≡ sixteen_digits)
    × (output_from first_unit 4294967294 (empty ++ empty) ≡ answer_line 4294967295 (0x10 ∷ 0xff ∷ 0x10 ∷ 0x00 ∷ []) ++ last_lines)
    × (output_from first_unit 4294967294 empty ≡ answer_line 4294967295 (0x10 ∷ 0xff ∷ 0x10 ∷ 0x00 ∷ []) ++ records 4294967295)
    × (output_from first_unit 4294967295 empty ≡ last_lines)
    × (output_from first_unit 4294967295 (0x00 ∷ []) ≡ last_lines)
    × (output_from first_unit 4294967295 [] ≡ records 4294967295)
unfolding output output_from output_within front_after front decimal digits hexadecimal hexadecimal_digit answer_line worded respond handled first_lines fitted known receive decode heading enclosed request_body decode_length decode_number number mode_known act allocate_done write_done read_done bulk_read_done allocate_step write_step read_step registered look change admission unit_managed bare total answer_body encode opening octets encode_length
worked = (refl, refl, refl, refl, refl, refl, refl, refl)

-- ---- one turn

abbrev turns : List (Turned × Turned)
turns =
    -- nothing, while more may come and at the end
    (turn first_unit 0 false [], more)
    ∷ (turn first_unit 0 true [], ended (records_digit 48))
    -- a record is answered as soon as it is whole, whatever comes behind it
    ∷ (turn first_unit 0 false empty, answered first_unit 5 (answer_line 1 (denied 16)))
    ∷ (turn first_unit 0 true empty, answered first_unit 5 (answer_line 1 (denied 16)))
    ∷ (turn first_unit 0 false (take 7 sixteen), answered first_unit 6 first_line)
    -- what is cut is waited for, and bad at the end
    ∷ (turn first_unit 0 false (take 5 sixteen), more)
    ∷ (turn first_unit 0 true (take 5 sixteen), ended cut_first)
    ∷ (turn first_unit 0 false (0x4d ∷ 0x41 ∷ 0x00 ∷ 0x08 ∷ 0x00 ∷ []), more)
    -- what is wrong ends the log as soon as it is seen
    ∷ (turn first_unit 0 false (0x4c ∷ []), ended cut_first)
    ∷ (turn first_unit 0 false (0x4d ∷ 0x40 ∷ []), ended cut_first)
    ∷ (turn first_unit 0 false (0x4d ∷ 0x41 ∷ 0x02 ∷ []), ended cut_first)
    ∷ (turn first_unit 0 false (0x4d ∷ 0x41 ∷ 0x00 ∷ 0x08 ∷ 0x01 ∷ []), ended cut_first)
    -- with 4,294,967,295 answered one octet is a record too many, none is not
    ∷ (turn first_unit 4294967295 false (0x4d ∷ []), ended last_lines)
    ∷ (turn first_unit 4294967295 false [], more)
    ∷ (turn first_unit 4294967294 false (0x4d ∷ []), more)
    ∷ []

-- room for 4,108 characters from the place on, and one less
abbrev words : List (Word × Word)
words =
    ((step_out first_unit 0 true [] (replicate 4108 0) 0).word, closed 10)
    ∷ ((step_out first_unit 0 true [] (replicate 4107 0) 0).word, refusal 300)
    ∷ ((step_out first_unit 0 true [] (replicate 4110 0) 2).word, closed 10)
    ∷ ((step_out first_unit 0 true [] (replicate 4109 0) 2).word, refusal 300)
    ∷ []

-- lines over the front, the middle and the end of an area; without room it is as it was
abbrev areas : List (List ℕ × List ℕ)
areas =
    (over (1 ∷ 2 ∷ 3 ∷ 4 ∷ 5 ∷ []) 0 (8 ∷ 9 ∷ []), 8 ∷ 9 ∷ 3 ∷ 4 ∷ 5 ∷ [])
    ∷ (over (1 ∷ 2 ∷ 3 ∷ 4 ∷ 5 ∷ []) 2 (8 ∷ 9 ∷ []), 1 ∷ 2 ∷ 8 ∷ 9 ∷ 5 ∷ [])
    ∷ (over (1 ∷ 2 ∷ 3 ∷ 4 ∷ 5 ∷ []) 3 (8 ∷ 9 ∷ []), 1 ∷ 2 ∷ 3 ∷ 8 ∷ 9 ∷ [])
    ∷ (over (1 ∷ 2 ∷ 3 ∷ 4 ∷ 5 ∷ []) 2 [], 1 ∷ 2 ∷ 3 ∷ 4 ∷ 5 ∷ [])
    ∷ ((step_out first_unit 0 true [] (replicate 10 7) 0).area, replicate 10 7)
    ∷ []

pub turns-hold : (is turns ≡ should turns) × (is words ≡ should words) × (is areas ≡ should areas)
unfolding step_out turn front_after front decimal digits hexadecimal hexadecimal_digit answer_line worded respond handled first_lines answer_body encode opening octets encode_length
turns-hold = (refl, refl, refl)
