-- The definitions at their limits, in tables that are each proved by computation: which messages may be written, on both sides of every limit of document 01;
-- damaged octets with the kind of their fault; and document 01's number and values for each case of what an answer is read as.
use Prim.Native.Nat.{ℕ}
use mathlib.Core.Path.{◌≡◌, refl}
use mathlib.Core.Bool.{Bool, true, false}
use mathlib.Core.List.{List, [], ◌∷◌, ◌++◌, map}
use Rattle.octets.specs.Reading.{Told, refused, told}
use Rattle.octets.specs.Length.{encode_length, decode_length}
use Rattle.octets.specs.Number.{number, octets, decode_number}
use Rattle.octets.specs.Frame.{opening, openable, heading, enclosed, decode, writable, receive}
use Rattle.octets.specs.declared.Access.TheVariants as a
use Rattle.octets.specs.declared.Entries.{Entries}
use Rattle.octets.specs.declared.Fault.{Fault}
use Rattle.octets.specs.declared.Fault.TheVariants.{Missing, Longer, High, Other}
use Rattle.octets.specs.declared.Form.TheVariants as f
use Rattle.octets.specs.declared.Span.{Span}
use Rattle.resources.specs.Resource.{mode_known}
use Rattle.resources.specs.declared.Resource.{Resource}
use Rattle.requests.specs.Command.{known}
use Rattle.requests.specs.Request.{request, request_body, request_read, request_writable}
use Rattle.requests.specs.Request as q
use Rattle.answers.specs.Answer.{accepted, denied, answer, answer_body, answer_read, answer_writable}
use Rattle.answers.specs.Answer as r
use Rattle.answers.specs.View.{given_kind, given_body}
use Rattle.answers.specs.declared.Given.{Given}
use Rattle.answers.specs.declared.Given.TheVariants as g
use Rattle.answers.proofs.Worked.{Sent, asks, replies, K, P, k, left, times}

-- ---- which messages may be written

abbrev may : Sent → Bool
may (asks m) = request_writable m
may (replies x) = answer_writable x

-- a plain request, and one with passwords; an answer to each; an allocation of K; what is told of K
abbrev plain : q.Body → Sent
plain b = asks (request 1 f.Plain b)

abbrev locked : q.Body → Sent
locked b = asks (request 1 f.Password b)

abbrev reply : r.Body → Sent
reply b = replies (accepted (answer 1 f.Plain b))

abbrev sized : ℕ → ℕ → ℕ → q.Body
sized mode size n = q.allocate (record { tag = K; mode = mode; size = size; access = a.Plain; initial = times n 1 })

abbrev told_of : ℕ → Resource
told_of mode = record { tag = K; mode = mode; held = 9; size = 8 }

abbrev denies : ℕ → ℕ → ℕ → Sent
denies version status n = replies (denied (record { version = version; status = status; supplement = times n 0 }))

abbrev limits : List (Sent × Bool)
limits =
    -- the version
    (asks (request 15 f.Plain (q.free (K, a.Plain))), true)
    ∷ (asks (request 16 f.Plain (q.free (K, a.Plain))), false)
    -- 2,048 octets
    ∷ (plain (q.write ((K, a.Plain), times 2032 7)), true)
    ∷ (plain (q.write ((K, a.Plain), times 2033 7)), false)
    ∷ (locked (q.write ((K, a.Password P), times 2024 7)), true)
    ∷ (locked (q.write ((K, a.Password P), times 2025 7)), false)
    ∷ (plain (q.resource_information (times 255 (K, a.Plain))), true)
    ∷ (plain (q.resource_information (times 256 (K, a.Plain))), false)
    ∷ (plain (q.bulk_read (times 255 (K, a.Plain))), true)
    ∷ (plain (q.bulk_read (times 256 (K, a.Plain))), false)
    ∷ (locked (q.bulk_read (times 127 (K, a.Password P))), true)
    ∷ (locked (q.bulk_read (times 128 (K, a.Password P))), false)
    ∷ (plain (q.bulk_write (times 226 ((K, a.Plain), []))), true)
    ∷ (plain (q.bulk_write (times 227 ((K, a.Plain), []))), false)
    ∷ (locked (q.bulk_write (times 120 ((K, a.Password P), []))), true)
    ∷ (locked (q.bulk_write (times 121 ((K, a.Password P), []))), false)
    ∷ (plain (sized 0 1 2027), true)
    ∷ (plain (sized 0 1 2028), false)
    ∷ (reply (r.resource_information (left 31 8128, times 119 (told_of 5))), true)
    ∷ (reply (r.resource_information (left 31 8128, times 120 (told_of 5))), false)
    ∷ (reply (r.read ((K, a.Plain), times 2032 0)), true)
    ∷ (reply (r.read ((K, a.Plain), times 2033 0)), false)
    -- mode codes
    ∷ (plain (sized 2 1 0), true)
    ∷ (plain (sized 3 1 0), false)
    ∷ (plain (sized 4 1 0), true)
    ∷ (plain (sized 6 1 0), true)
    ∷ (plain (sized 7 1 0), false)
    ∷ (plain (sized 8 1 0), false)
    ∷ (reply (r.resource_information (left 31 8128, told_of 6 ∷ told_of 3 ∷ [])), false)
    -- numbers and their fields
    ∷ (plain (sized 0 4294967295 0), true)
    ∷ (plain (sized 0 4294967296 0), false)
    ∷ (reply (r.resource_information (left 65535 8128, [])), true)
    ∷ (reply (r.resource_information (left 65536 8128, [])), false)
    ∷ (plain (q.free (0x10000000000000000, a.Plain)), false)
    -- the form and the accesses
    ∷ (locked (q.bulk_read []), true)
    ∷ (plain (q.read (K, a.Password P)), false)
    ∷ (locked (q.read (K, a.Plain)), false)
    ∷ (locked (q.resource_information []), false)
    -- denials
    ∷ (denies 15 255 127, true)
    ∷ (denies 15 255 128, false)
    ∷ (denies 16 4 0, false)
    ∷ (denies 15 256 0, false)
    ∷ []

pub limits-hold : map (λ (x : Sent × Bool). may x.0) limits ≡ map (λ (x : Sent × Bool). x.1) limits
unfolding writable openable opening encode_length octets request_body answer_body known mode_known
limits-hold = refl

-- ---- damaged octets

-- a request that begins so
abbrev begins : ℕ → List ℕ → List ℕ
begins kind l = 0x10 ∷ 1 ∷ kind ∷ 0 ∷ l

abbrev damaged-requests : List (List ℕ × Fault)
damaged-requests =
    ([], Other)
    ∷ (0x10 ∷ [], Other)
    ∷ (0x10 ∷ 1 ∷ [], Other)
    ∷ (0x10 ∷ 1 ∷ 3 ∷ [], Other)
    ∷ (0x11 ∷ 1 ∷ 3 ∷ 0 ∷ 8 ∷ k, Other)
    ∷ (0x10 ∷ 0 ∷ 3 ∷ 0 ∷ 8 ∷ k, Other)
    ∷ (0x10 ∷ 255 ∷ 0 ∷ 0 ∷ [], Other)
    ∷ (0x10 ∷ 1 ∷ 3 ∷ 1 ∷ 8 ∷ k, Other)
    -- the body's length: missing, cut, longer than needed, C0 and up, not the rest's
    ∷ (begins 3 [], Missing)
    ∷ (begins 3 (0x80 ∷ []), Missing)
    ∷ (begins 3 (0x80 ∷ 8 ∷ k), Longer)
    ∷ (begins 3 (0x80 ∷ 0x7f ∷ []), Longer)
    ∷ (begins 3 (0xc0 ∷ []), High)
    ∷ (begins 3 (0xff ∷ k), High)
    ∷ (begins 3 (7 ∷ k), Other)
    ∷ (begins 3 (9 ∷ k), Other)
    ∷ (begins 3 (9 ∷ k ++ (0 ∷ [])), Other)
    -- counts, and the lengths of data
    ∷ (begins 0 (0 ∷ []), Missing)
    ∷ (begins 0 (2 ∷ 0x80 ∷ 1 ∷ []), Longer)
    ∷ (begins 0 (1 ∷ 0xc5 ∷ []), High)
    ∷ (begins 0 (1 ∷ 1 ∷ []), Other)
    ∷ (begins 4 (8 ∷ k), Missing)
    ∷ (begins 4 (11 ∷ k ++ (0x80 ∷ 1 ∷ 0xaa ∷ [])), Longer)
    ∷ (begins 4 (9 ∷ k ++ (2 ∷ [])), Other)
    ∷ (begins 6 (9 ∷ 1 ∷ k), Missing)
    ∷ (begins 6 (10 ∷ 2 ∷ k ++ (0 ∷ [])), Other)
    ∷ (begins 5 (0x80 ∷ 0x8a ∷ 0x11 ∷ times 137 0), Other)
    -- modes: the mode is read before the initial value's length
    ∷ (begins 1 (13 ∷ k ++ (3 ∷ 0 ∷ 0 ∷ 0 ∷ 1 ∷ [])), Other)
    ∷ (begins 1 (13 ∷ k ++ (0 ∷ 0 ∷ 0 ∷ 0 ∷ 1 ∷ [])), Missing)
    ∷ (begins 1 (14 ∷ k ++ (8 ∷ 0 ∷ 0 ∷ 0 ∷ 1 ∷ 0 ∷ [])), Other)
    -- types that are in no row of the table, and 2,049 octets
    ∷ (begins 7 (1 ∷ 0 ∷ []), Other)
    ∷ (begins 64 (1 ∷ 0 ∷ []), Other)
    ∷ (begins 71 (1 ∷ 0 ∷ []), Other)
    ∷ (begins 131 (9 ∷ k ++ (0 ∷ [])), Other)
    ∷ (begins 4 (0x87 ∷ 0xfb ∷ k ++ (0x87 ∷ 0xf1 ∷ times 2033 0)), Other)
    ∷ []

abbrev damaged-answers : List (List ℕ × Fault)
damaged-answers =
    ([], Other)
    ∷ (0x10 ∷ 255 ∷ [], Other)
    ∷ (0x10 ∷ 255 ∷ 16 ∷ [], Missing)
    ∷ (0x11 ∷ 255 ∷ 16 ∷ 0 ∷ [], Other)
    ∷ (0x10 ∷ 254 ∷ 16 ∷ 0 ∷ [], Other)
    ∷ (0x10 ∷ 255 ∷ 16 ∷ 1 ∷ [], Other)
    ∷ (0x10 ∷ 255 ∷ 16 ∷ 0 ∷ 0 ∷ [], Other)
    ∷ (0x10 ∷ 255 ∷ 16 ∷ 0x80 ∷ 0x80 ∷ times 128 0, Other)
    ∷ (begins 3 (8 ∷ k), Other)
    ∷ (begins 127 (8 ∷ k), Other)
    ∷ (begins 130 (0 ∷ []), Other)
    ∷ (begins 135 (8 ∷ k), Other)
    ∷ (begins 192 (1 ∷ 0 ∷ []), Other)
    ∷ (begins 199 (8 ∷ k), Other)
    ∷ (begins 194 (16 ∷ k ++ k), Other)
    -- types below 128, with a body that type 128 has; and 2,049 octets
    ∷ (begins 0 (19 ∷ times 19 0), Other)
    ∷ (begins 127 (19 ∷ times 19 0), Other)
    ∷ (begins 131 (0x87 ∷ 0xfb ∷ k ++ (0x87 ∷ 0xf1 ∷ times 2033 0)), Other)
    ∷ []

abbrev faults : {A : Type 0} → List (List ℕ × Fault) → List (Told A)
faults [] = []
faults (x ∷ l) = refused 16 x.1 ∷ faults l

pub damaged-refused :
    (map (λ (x : List ℕ × Fault). told (request_read x.0)) damaged-requests ≡ faults damaged-requests)
    × (map (λ (x : List ℕ × Fault). told (answer_read x.0)) damaged-answers ≡ faults damaged-answers)
unfolding request_body answer_body known receive answer_read decode heading enclosed decode_length decode_number number mode_known
damaged-refused = (refl, refl)

-- ---- the number of each case: "The answer's type is the request's plus 128"

-- a list and a part of the octets below
abbrev list : Entries
list = record { start = 0; count = 1 }

abbrev part : Span
part = record { start = 9; len = 1 }

abbrev kinds : List (Given × ℕ)
kinds =
    (g.Resources (left 31 8128) list, 128)
    ∷ (g.Allocate f.Plain 5, 129)
    ∷ (g.Allocate f.Password 5, 193)
    ∷ (g.Free f.Plain 5, 130)
    ∷ (g.Free f.Password 5, 194)
    ∷ (g.Read f.Plain 5 part, 131)
    ∷ (g.Read f.Password 5 part, 195)
    ∷ (g.Write f.Plain 5, 132)
    ∷ (g.Write f.Password 5, 196)
    ∷ (g.BulkRead f.Plain list, 133)
    ∷ (g.BulkRead f.Password list, 197)
    ∷ (g.BulkWrite f.Plain list, 134)
    ∷ (g.BulkWrite f.Password list, 198)
    ∷ []

pub kinds-hold : map (λ (x : Given × ℕ). given_kind x.0) kinds ≡ map (λ (x : Given × ℕ). x.1) kinds
kinds-hold = refl

-- ---- its values, where the octets are tag 9 and one octet of data, or what is told of tag 9; no answer carries a password

abbrev s : List ℕ
s = 0 ∷ 0 ∷ 0 ∷ 0 ∷ 0 ∷ 0 ∷ 0 ∷ 9 ∷ 1 ∷ 0xAA ∷ 0 ∷ 0 ∷ 2 ∷ 0 ∷ 0 ∷ 0 ∷ 3 ∷ []

abbrev bodies : List (Given × r.Body)
bodies =
    (g.Resources (left 31 8128) list, r.resource_information (left 31 8128, record { tag = 9; mode = 1; held = 0xAA000002; size = 3 } ∷ []))
    ∷ (g.Allocate f.Password 5, r.allocate (5, a.Plain))
    ∷ (g.Free f.Password 5, r.free (5, a.Plain))
    ∷ (g.Read f.Password 5 part, r.read ((5, a.Plain), 0xAA ∷ []))
    ∷ (g.Write f.Password 5, r.write (5, a.Plain))
    ∷ (g.BulkRead f.Password list, r.bulk_read (((9, a.Plain), 0xAA ∷ []) ∷ []))
    ∷ (g.BulkWrite f.Password list, r.bulk_write ((9, a.Plain) ∷ []))
    ∷ []

pub bodies-hold : map (λ (x : Given × r.Body). given_body s x.0) bodies ≡ map (λ (x : Given × r.Body). x.1) bodies
unfolding decode_length decode_number number mode_known
bodies-hold = refl
