-- The known exchanges of document 01 that are not starred: each limit on both sides. One table of runs on a new unit with one proof, by computation.
-- A run is a list of commands with their replies, as in proofs/Runs; K and W are tags as in the worked encodings.
use Prim.Native.Nat.{ℕ}
use mathlib.Core.Path.{◌≡◌, refl}
use mathlib.Core.List.{List, [], ◌∷◌, ◌++◌, map}
use Rattle.octets.specs.Length.{encode_length, decode_length}
use Rattle.octets.specs.Number.{number, octets, decode_number, bare}
use Rattle.octets.specs.Frame.{opening, heading, enclosed, decode, encode, receive}
use Rattle.octets.specs.declared.Port.TheVariants.{Normal}
use Rattle.resources.specs.Resource.{mode_known}
use Rattle.requests.specs.Command.{known}
use Rattle.requests.specs.Request.{request_body}
use Rattle.answers.specs.Answer.{answer_body}
use Rattle.answers.proofs.Worked.{k, w, times}
use Rattle.admission.specs.Admission.{unit_managed, admission}
use Rattle.rows.specs.Keyed.{look, change, without}
use Rattle.store.specs.Model.{total}
use Rattle.store.specs.Steps.{registered, write_step, free_step, allocate_step, read_step}
use Rattle.responder.specs.Respond.{allocate_done, free_done, write_done, read_done, all_told, resources_done, all_reads, bulk_read_done, all_writes, bulk_write_done, act, fitted, first_lines, handled, respond}
use Rattle.responder.specs.Demands.{results}
use Rattle.responder.proofs.Runs.{Line, exchange, said, wanted}

-- ---- commands

-- a tag by its last octet
abbrev pub tag : ℕ → List ℕ
tag n = times 7 0x00 ++ n ∷ []

-- an allocation of so many octets, in four octets, both modes, no SPF
abbrev pub allocates : List ℕ → List ℕ → List ℕ
allocates t size = (0x10 ∷ 0x01 ∷ 0x01 ∷ 0x00 ∷ 0x0e ∷ []) ++ t ++ (0x00 ∷ []) ++ size ++ (0x00 ∷ [])

-- its answer, and a denial
abbrev pub allocated : List ℕ → List ℕ
allocated t = (0x10 ∷ 0x01 ∷ 0x81 ∷ 0x00 ∷ 0x08 ∷ []) ++ t

abbrev pub denies : ℕ → List ℕ
denies n = 0x10 ∷ 0xff ∷ n ∷ 0x00 ∷ []

-- an accepted allocation, and one that is denied
abbrev pub grants : List ℕ → List ℕ → Line
grants t size = exchange Normal (allocates t size) (allocated t)

abbrev pub bars : List ℕ → List ℕ → ℕ → Line
bars t size n = exchange Normal (allocates t size) (denies n)

-- a write of that many octets to a tag: the length of the body, of the data, and the data
abbrev pub fills : List ℕ → List ℕ → List ℕ → List ℕ → Line
fills t body size xs =
    exchange Normal ((0x10 ∷ 0x01 ∷ 0x04 ∷ 0x00 ∷ []) ++ body ++ t ++ size ++ xs) ((0x10 ∷ 0x01 ∷ 0x84 ∷ 0x00 ∷ 0x08 ∷ []) ++ t)

-- ---- the runs

-- "Area 1,024: accepted; 0 and 1,025: 9", and the field's largest
abbrev pub areas : List Line
areas =
    bars k (0x00 ∷ 0x00 ∷ 0x00 ∷ 0x00 ∷ []) 0x09
    ∷ bars k (0x00 ∷ 0x00 ∷ 0x04 ∷ 0x01 ∷ []) 0x09
    ∷ bars k (0xff ∷ 0xff ∷ 0xff ∷ 0xff ∷ []) 0x09
    ∷ grants k (0x00 ∷ 0x00 ∷ 0x04 ∷ 0x00 ∷ [])
    ∷ []

-- "Memory with 10 octets over: 10 accepted, 11 gives 5": seven areas of 1,024, one of 1,014; then none is left
abbrev pub memory : List Line
memory =
    map (λ (n : ℕ). grants (tag n) (0x00 ∷ 0x00 ∷ 0x04 ∷ 0x00 ∷ [])) (1 ∷ 2 ∷ 3 ∷ 4 ∷ 5 ∷ 6 ∷ 7 ∷ [])
    ++ grants (tag 8) (0x00 ∷ 0x00 ∷ 0x03 ∷ 0xf6 ∷ [])
    ∷ bars k (0x00 ∷ 0x00 ∷ 0x00 ∷ 0x0b ∷ []) 0x05
    ∷ grants k (0x00 ∷ 0x00 ∷ 0x00 ∷ 0x0a ∷ [])
    ∷ bars w (0x00 ∷ 0x00 ∷ 0x00 ∷ 0x01 ∷ []) 0x05
    ∷ []

-- "Lists of 16 and 17": bulk read, bulk write and resource information
abbrev pub lists : List Line
lists =
    exchange Normal ((0x10 ∷ 0x01 ∷ 0x05 ∷ 0x00 ∷ 0x80 ∷ 0x81 ∷ 0x10 ∷ []) ++ times 128 0x00) (0x10 ∷ 0x01 ∷ 0x85 ∷ 0x00 ∷ 0x01 ∷ 0x00 ∷ [])
    ∷ exchange Normal ((0x10 ∷ 0x01 ∷ 0x05 ∷ 0x00 ∷ 0x80 ∷ 0x89 ∷ 0x11 ∷ []) ++ times 136 0x00) (denies 0x07)
    ∷ exchange Normal ((0x10 ∷ 0x01 ∷ 0x06 ∷ 0x00 ∷ 0x80 ∷ 0x91 ∷ 0x10 ∷ []) ++ times 144 0x00) (0x10 ∷ 0x01 ∷ 0x86 ∷ 0x00 ∷ 0x01 ∷ 0x00 ∷ [])
    ∷ exchange Normal ((0x10 ∷ 0x01 ∷ 0x06 ∷ 0x00 ∷ 0x80 ∷ 0x9a ∷ 0x11 ∷ []) ++ times 153 0x00) (denies 0x07)
    ∷ exchange Normal ((0x10 ∷ 0x01 ∷ 0x00 ∷ 0x00 ∷ 0x80 ∷ 0x81 ∷ 0x10 ∷ []) ++ times 128 0x00) (0x10 ∷ 0x01 ∷ 0x80 ∷ 0x00 ∷ 0x13 ∷ 0x00 ∷ 0x00 ∷ 0x08 ∷ 0x00 ∷ 0x00 ∷ 0x20 ∷ 0x00 ∷ 0x00 ∷ 0x20 ∷ 0x00 ∷ 0x00 ∷ 0x20 ∷ 0x00 ∷ 0x00 ∷ 0x20 ∷ 0x00 ∷ 0x00 ∷ 0x10 ∷ 0x00 ∷ [])
    ∷ exchange Normal ((0x10 ∷ 0x01 ∷ 0x00 ∷ 0x00 ∷ 0x80 ∷ 0x89 ∷ 0x11 ∷ []) ++ times 136 0x00) (denies 0x07)
    ∷ []

-- tags holding 1,024, 1,024 and 997 octets
abbrev pub filled : List Line
filled =
    grants (tag 1) (0x00 ∷ 0x00 ∷ 0x04 ∷ 0x00 ∷ [])
    ∷ grants (tag 2) (0x00 ∷ 0x00 ∷ 0x04 ∷ 0x00 ∷ [])
    ∷ grants (tag 3) (0x00 ∷ 0x00 ∷ 0x04 ∷ 0x00 ∷ [])
    ∷ fills (tag 1) (0x84 ∷ 0x0a ∷ []) (0x84 ∷ 0x00 ∷ []) (times 1024 0xaa)
    ∷ fills (tag 2) (0x84 ∷ 0x0a ∷ []) (0x84 ∷ 0x00 ∷ []) (times 1024 0xbb)
    ∷ fills (tag 3) (0x83 ∷ 0xef ∷ []) (0x83 ∷ 0xe5 ∷ []) (times 997 0xcc)
    ∷ []

-- a bulk read of the three
abbrev pub reading : List ℕ
reading = (0x10 ∷ 0x01 ∷ 0x05 ∷ 0x00 ∷ 0x19 ∷ 0x03 ∷ []) ++ tag 1 ++ tag 2 ++ tag 3

-- "Bulk read of tags holding 1,024, 1,024 and 997: the second is passed over, the body is 2,042 octets. With 998 only the first is given."
abbrev pub bulk : List Line
bulk =
    filled
    ++ exchange Normal reading ((0x10 ∷ 0x01 ∷ 0x85 ∷ 0x00 ∷ 0x87 ∷ 0xfa ∷ 0x02 ∷ []) ++ tag 1 ++ (0x84 ∷ 0x00 ∷ []) ++ times 1024 0xaa ++ tag 3 ++ (0x83 ∷ 0xe5 ∷ []) ++ times 997 0xcc)
    ∷ fills (tag 3) (0x83 ∷ 0xf0 ∷ []) (0x83 ∷ 0xe6 ∷ []) (times 998 0xcc)
    ∷ exchange Normal reading ((0x10 ∷ 0x01 ∷ 0x85 ∷ 0x00 ∷ 0x84 ∷ 0x0b ∷ 0x01 ∷ []) ++ tag 1 ++ (0x84 ∷ 0x00 ∷ []) ++ times 1024 0xaa)
    ∷ []

-- each on a new unit
abbrev pub limits : List (List Line)
limits = areas ∷ memory ∷ lists ∷ bulk ∷ []

-- every limit, on both sides
pub limits-hold : map said limits ≡ map wanted limits
unfolding results respond handled first_lines fitted known receive decode heading enclosed request_body decode_length decode_number number mode_known act allocate_done free_done write_done read_done all_told resources_done all_reads bulk_read_done all_writes bulk_write_done allocate_step free_step write_step read_step registered look change without admission unit_managed bare total answer_body encode opening octets encode_length
limits-hold = refl
