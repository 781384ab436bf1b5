-- The worked encodings of the 26 messages and the denial (tables 3.2-2 to 3.2-42), as one table: the definitions write each message as these octets, and read these
-- octets as that message. One proof, by computation.
use Prim.Native.Nat.{ℕ, zero, suc}
use mathlib.Core.Path.{◌≡◌, refl}
use mathlib.Core.List.{List, [], ◌∷◌, ◌++◌, map}
use Rattle.octets.specs.Reading.{Told, message, refused, told}
use Rattle.octets.specs.Length.{encode_length, decode_length}
use Rattle.octets.specs.Number.{number, octets, decode_number}
use Rattle.octets.specs.Frame.{Message, opening, heading, enclosed, decode, encode, receive}
use Rattle.octets.specs.declared.Access.TheVariants as a
use Rattle.octets.specs.declared.Form.TheVariants as f
use Rattle.resources.specs.Resource.{mode_known}
use Rattle.resources.specs.declared.Room.{Room}
use Rattle.requests.specs.Command.{known}
use Rattle.requests.specs.Request.{request, request_body, request_octets, request_read}
use Rattle.requests.specs.Request as q
use Rattle.answers.specs.Answer.{Answer, accepted, denied, answer, answer_body, answer_octets, answer_read}
use Rattle.answers.specs.Answer as r

pub data Sent : Type 0 where
  asks : Message q.Body → Sent
  replies : Answer → Sent

pub record Row : Type 0 where
  pub sent : Sent
  pub octets : List ℕ

-- the tags and the password of the worked encodings, as numbers and as octets: W is volatile
abbrev pub K : ℕ
K = 0x0011223344556677

abbrev pub W : ℕ
W = 0x80aabbccddeeff00

abbrev pub P : ℕ
P = 0x0102030405060708

abbrev pub k : List ℕ
k = 0x00 ∷ 0x11 ∷ 0x22 ∷ 0x33 ∷ 0x44 ∷ 0x55 ∷ 0x66 ∷ 0x77 ∷ []

abbrev pub w : List ℕ
w = 0x80 ∷ 0xaa ∷ 0xbb ∷ 0xcc ∷ 0xdd ∷ 0xee ∷ 0xff ∷ 0x00 ∷ []

abbrev pub p : List ℕ
p = 0x01 ∷ 0x02 ∷ 0x03 ∷ 0x04 ∷ 0x05 ∷ 0x06 ∷ 0x07 ∷ 0x08 ∷ []

-- a value n times
abbrev pub times : {A : Type 0} → ℕ → A → List A
times zero x = []
times (suc n) x = x ∷ times n x

-- a unit with that many tags and octets left
abbrev pub left : ℕ → ℕ → Room
left tags octets = record { largest = 2048; tags = tags; octets = octets; volatile_tags = tags; volatile_octets = octets; entries = 16 }

abbrev pub row : Sent → List ℕ → Row
row m l = record { sent = m; octets = l }

abbrev pub table : List Row
table =
    row (asks (request 1 f.Plain (q.resource_information []))) (0x10 ∷ 0x01 ∷ 0x00 ∷ 0x00 ∷ 0x01 ∷ 0x00 ∷ [])
    ∷ row (asks (request 1 f.Plain (q.resource_information ((K, a.Plain) ∷ [])))) ((0x10 ∷ 0x01 ∷ 0x00 ∷ 0x00 ∷ 0x09 ∷ 0x01 ∷ []) ++ k)
    ∷ row (asks (request 1 f.Plain (q.allocate (record { tag = W; mode = 5; size = 1024; access = a.Plain; initial = 0xaa ∷ 0xbb ∷ [] })))) ((0x10 ∷ 0x01 ∷ 0x01 ∷ 0x00 ∷ 0x10 ∷ []) ++ w ++ (0x05 ∷ 0x00 ∷ 0x00 ∷ 0x04 ∷ 0x00 ∷ 0x02 ∷ 0xaa ∷ 0xbb ∷ []))
    ∷ row (asks (request 1 f.Plain (q.free (K, a.Plain)))) ((0x10 ∷ 0x01 ∷ 0x02 ∷ 0x00 ∷ 0x08 ∷ []) ++ k)
    ∷ row (asks (request 1 f.Plain (q.read (K, a.Plain)))) ((0x10 ∷ 0x01 ∷ 0x03 ∷ 0x00 ∷ 0x08 ∷ []) ++ k)
    ∷ row (asks (request 1 f.Plain (q.write ((K, a.Plain), 0xaa ∷ [])))) ((0x10 ∷ 0x01 ∷ 0x04 ∷ 0x00 ∷ 0x0a ∷ []) ++ k ++ (0x01 ∷ 0xaa ∷ []))
    ∷ row (asks (request 1 f.Plain (q.write ((K, a.Plain), [])))) ((0x10 ∷ 0x01 ∷ 0x04 ∷ 0x00 ∷ 0x09 ∷ []) ++ k ++ (0x00 ∷ []))
    ∷ row (asks (request 1 f.Plain (q.bulk_read ((K, a.Plain) ∷ (W, a.Plain) ∷ [])))) ((0x10 ∷ 0x01 ∷ 0x05 ∷ 0x00 ∷ 0x11 ∷ 0x02 ∷ []) ++ k ++ w)
    ∷ row (asks (request 1 f.Plain (q.bulk_write (((K, a.Plain), 0xaa ∷ []) ∷ ((W, a.Plain), []) ∷ [])))) ((0x10 ∷ 0x01 ∷ 0x06 ∷ 0x00 ∷ 0x14 ∷ 0x02 ∷ []) ++ k ++ (0x01 ∷ 0xaa ∷ []) ++ w ++ (0x00 ∷ []))
    ∷ row (asks (request 1 f.Password (q.allocate (record { tag = K; mode = 2; size = 256; access = a.Password P; initial = 0x7e ∷ [] })))) ((0x10 ∷ 0x01 ∷ 0x41 ∷ 0x00 ∷ 0x17 ∷ []) ++ k ++ (0x02 ∷ 0x00 ∷ 0x00 ∷ 0x01 ∷ 0x00 ∷ []) ++ p ++ (0x01 ∷ 0x7e ∷ []))
    ∷ row (asks (request 1 f.Password (q.free (K, a.Password P)))) ((0x10 ∷ 0x01 ∷ 0x42 ∷ 0x00 ∷ 0x10 ∷ []) ++ k ++ p)
    ∷ row (asks (request 1 f.Password (q.read (K, a.Password P)))) ((0x10 ∷ 0x01 ∷ 0x43 ∷ 0x00 ∷ 0x10 ∷ []) ++ k ++ p)
    ∷ row (asks (request 1 f.Password (q.write ((K, a.Password P), 0xaa ∷ [])))) ((0x10 ∷ 0x01 ∷ 0x44 ∷ 0x00 ∷ 0x12 ∷ []) ++ k ++ p ++ (0x01 ∷ 0xaa ∷ []))
    ∷ row (asks (request 1 f.Password (q.bulk_read ((K, a.Password P) ∷ [])))) ((0x10 ∷ 0x01 ∷ 0x45 ∷ 0x00 ∷ 0x11 ∷ 0x01 ∷ []) ++ k ++ p)
    ∷ row (asks (request 1 f.Password (q.bulk_write (((K, a.Password P), 0xaa ∷ []) ∷ [])))) ((0x10 ∷ 0x01 ∷ 0x46 ∷ 0x00 ∷ 0x13 ∷ 0x01 ∷ []) ++ k ++ p ++ (0x01 ∷ 0xaa ∷ []))
    ∷ row (replies (accepted (answer 1 f.Plain (r.resource_information (left 32 8192, []))))) (0x10 ∷ 0x01 ∷ 0x80 ∷ 0x00 ∷ 0x13 ∷ 0x00 ∷ 0x00 ∷ 0x08 ∷ 0x00 ∷ 0x00 ∷ 0x20 ∷ 0x00 ∷ 0x00 ∷ 0x20 ∷ 0x00 ∷ 0x00 ∷ 0x20 ∷ 0x00 ∷ 0x00 ∷ 0x20 ∷ 0x00 ∷ 0x00 ∷ 0x10 ∷ 0x00 ∷ [])
    ∷ row (replies (accepted (answer 1 f.Plain (r.resource_information (left 31 8128, record { tag = K; mode = 5; held = 0; size = 64 } ∷ []))))) ((0x10 ∷ 0x01 ∷ 0x80 ∷ 0x00 ∷ 0x24 ∷ 0x00 ∷ 0x00 ∷ 0x08 ∷ 0x00 ∷ 0x00 ∷ 0x1f ∷ 0x00 ∷ 0x00 ∷ 0x1f ∷ 0xc0 ∷ 0x00 ∷ 0x1f ∷ 0x00 ∷ 0x00 ∷ 0x1f ∷ 0xc0 ∷ 0x00 ∷ 0x10 ∷ 0x01 ∷ []) ++ k ++ (0x05 ∷ 0x00 ∷ 0x00 ∷ 0x00 ∷ 0x00 ∷ 0x00 ∷ 0x00 ∷ 0x00 ∷ 0x40 ∷ []))
    ∷ row (replies (accepted (answer 1 f.Plain (r.allocate (K, a.Plain))))) ((0x10 ∷ 0x01 ∷ 0x81 ∷ 0x00 ∷ 0x08 ∷ []) ++ k)
    ∷ row (replies (accepted (answer 1 f.Plain (r.free (K, a.Plain))))) ((0x10 ∷ 0x01 ∷ 0x82 ∷ 0x00 ∷ 0x08 ∷ []) ++ k)
    ∷ row (replies (accepted (answer 1 f.Plain (r.read ((K, a.Plain), 0xaa ∷ []))))) ((0x10 ∷ 0x01 ∷ 0x83 ∷ 0x00 ∷ 0x0a ∷ []) ++ k ++ (0x01 ∷ 0xaa ∷ []))
    ∷ row (replies (accepted (answer 1 f.Plain (r.write (K, a.Plain))))) ((0x10 ∷ 0x01 ∷ 0x84 ∷ 0x00 ∷ 0x08 ∷ []) ++ k)
    ∷ row (replies (accepted (answer 1 f.Plain (r.bulk_read (((K, a.Plain), 0xaa ∷ []) ∷ []))))) ((0x10 ∷ 0x01 ∷ 0x85 ∷ 0x00 ∷ 0x0b ∷ 0x01 ∷ []) ++ k ++ (0x01 ∷ 0xaa ∷ []))
    ∷ row (replies (accepted (answer 1 f.Plain (r.bulk_write ((K, a.Plain) ∷ (K, a.Plain) ∷ []))))) ((0x10 ∷ 0x01 ∷ 0x86 ∷ 0x00 ∷ 0x11 ∷ 0x02 ∷ []) ++ k ++ k)
    ∷ row (replies (accepted (answer 1 f.Password (r.allocate (K, a.Plain))))) ((0x10 ∷ 0x01 ∷ 0xc1 ∷ 0x00 ∷ 0x08 ∷ []) ++ k)
    ∷ row (replies (accepted (answer 1 f.Password (r.free (K, a.Plain))))) ((0x10 ∷ 0x01 ∷ 0xc2 ∷ 0x00 ∷ 0x08 ∷ []) ++ k)
    ∷ row (replies (accepted (answer 1 f.Password (r.read ((K, a.Plain), 0xaa ∷ []))))) ((0x10 ∷ 0x01 ∷ 0xc3 ∷ 0x00 ∷ 0x0a ∷ []) ++ k ++ (0x01 ∷ 0xaa ∷ []))
    ∷ row (replies (accepted (answer 1 f.Password (r.write (K, a.Plain))))) ((0x10 ∷ 0x01 ∷ 0xc4 ∷ 0x00 ∷ 0x08 ∷ []) ++ k)
    ∷ row (replies (accepted (answer 1 f.Password (r.bulk_read (((K, a.Plain), 0xaa ∷ []) ∷ []))))) ((0x10 ∷ 0x01 ∷ 0xc5 ∷ 0x00 ∷ 0x0b ∷ 0x01 ∷ []) ++ k ++ (0x01 ∷ 0xaa ∷ []))
    ∷ row (replies (accepted (answer 1 f.Password (r.bulk_write ((K, a.Plain) ∷ []))))) ((0x10 ∷ 0x01 ∷ 0xc6 ∷ 0x00 ∷ 0x09 ∷ 0x01 ∷ []) ++ k)
    ∷ row (replies (denied (record { version = 1; status = 4; supplement = 0x10 ∷ [] }))) (0x10 ∷ 0xff ∷ 0x04 ∷ 0x01 ∷ 0x10 ∷ [])
    ∷ row (replies (denied (record { version = 1; status = 16; supplement = [] }))) (0x10 ∷ 0xff ∷ 0x10 ∷ 0x00 ∷ [])
    ∷ row (replies (denied (record { version = 1; status = 16; supplement = 2 ∷ [] }))) (0x10 ∷ 0xff ∷ 0x10 ∷ 0x01 ∷ 0x02 ∷ [])
    ∷ row (asks (request 1 f.Plain (q.write ((K, a.Plain), times 118 7)))) ((0x10 ∷ 0x01 ∷ 0x04 ∷ 0x00 ∷ 0x7f ∷ []) ++ k ++ (0x76 ∷ times 118 7))
    ∷ row (asks (request 1 f.Plain (q.write ((K, a.Plain), times 119 7)))) ((0x10 ∷ 0x01 ∷ 0x04 ∷ 0x00 ∷ 0x80 ∷ 0x80 ∷ []) ++ k ++ (0x77 ∷ times 119 7))
    ∷ row (asks (request 1 f.Plain (q.write ((K, a.Plain), times 200 7)))) ((0x10 ∷ 0x01 ∷ 0x04 ∷ 0x00 ∷ 0x80 ∷ 0xd2 ∷ []) ++ k ++ (0x80 ∷ 0xc8 ∷ times 200 7))
    ∷ row (asks (request 1 f.Plain (q.bulk_read (times 17 (0, a.Plain))))) ((0x10 ∷ 0x01 ∷ 0x05 ∷ 0x00 ∷ 0x80 ∷ 0x89 ∷ 0x11 ∷ []) ++ times 136 0)
    ∷ row (asks (request 1 f.Plain (q.bulk_read (times 255 (0, a.Plain))))) ((0x10 ∷ 0x01 ∷ 0x05 ∷ 0x00 ∷ 0x87 ∷ 0xfa ∷ 0x80 ∷ 0xff ∷ []) ++ times 2040 0)
    ∷ row (asks (request 15 f.Password (q.bulk_read []))) (0xf0 ∷ 0x01 ∷ 0x45 ∷ 0x00 ∷ 0x01 ∷ 0x00 ∷ [])
    ∷ row (asks (request 1 f.Plain (q.read (0x3f11223344556677, a.Plain)))) (0x10 ∷ 0x01 ∷ 0x03 ∷ 0x00 ∷ 0x08 ∷ 0x3f ∷ 0x11 ∷ 0x22 ∷ 0x33 ∷ 0x44 ∷ 0x55 ∷ 0x66 ∷ 0x77 ∷ [])
    ∷ row (replies (accepted (answer 1 f.Plain (r.resource_information (record { largest = 1; tags = 2; octets = 3; volatile_tags = 4; volatile_octets = 5; entries = 6 }, [])))))
    (0x10 ∷ 0x01 ∷ 0x80 ∷ 0x00 ∷ 0x13 ∷ 0x00 ∷ 0x00 ∷ 0x00 ∷ 0x01 ∷ 0x00 ∷ 0x02 ∷ 0x00 ∷ 0x00 ∷ 0x00 ∷ 0x03 ∷ 0x00 ∷ 0x04 ∷ 0x00 ∷ 0x00 ∷ 0x00 ∷ 0x05 ∷ 0x00 ∷ 0x06 ∷ 0x00 ∷ [])
    -- the lowest version, the longest answer and the longest denial
    ∷ row (asks (request 0 f.Plain (q.bulk_read []))) (0x00 ∷ 0x01 ∷ 0x05 ∷ 0x00 ∷ 0x01 ∷ 0x00 ∷ [])
    ∷ row (replies (accepted (answer 1 f.Plain (r.bulk_write (times 255 (0, a.Plain)))))) ((0x10 ∷ 0x01 ∷ 0x86 ∷ 0x00 ∷ 0x87 ∷ 0xfa ∷ 0x80 ∷ 0xff ∷ []) ++ times 2040 0)
    ∷ row (replies (denied (record { version = 15; status = 0; supplement = times 127 9 }))) (0xf0 ∷ 0xff ∷ 0x00 ∷ 0x7f ∷ times 127 9)
    ∷ []

abbrev writes : Sent → List ℕ
writes (asks m) = request_octets m
writes (replies x) = answer_octets x

abbrev asked : Told (Message q.Body) → Told Sent
asked (message m) = message (asks m)
asked (refused n g) = refused n g

abbrev replied : Told Answer → Told Sent
replied (message x) = message (replies x)
replied (refused n g) = refused n g

-- read in the direction of what was sent
abbrev reads : Sent → List ℕ → Told Sent
reads (asks m) s = asked (told (request_read s))
reads (replies x) s = replied (told (answer_read s))

-- what the definitions give for a row, and what it says
abbrev given : Row → List ℕ × Told Sent
given x = (writes x.sent, reads x.sent x.octets)

abbrev wanted : Row → List ℕ × Told Sent
wanted x = (x.octets, message x.sent)

pub worked : map given table ≡ map wanted table
unfolding encode opening encode_length octets request_body answer_body known receive answer_read decode heading enclosed decode_length decode_number number mode_known
worked = refl
