-- Cases beside the known exchanges and the runs: units in some state, requests and their replies, in one table with one proof, by computation, for both ports.
-- K, P, `plain` and `locked` as in proofs/Starred.
use Prim.Native.Nat.{ℕ, zero, suc}
use mathlib.Core.Path.{◌≡◌, refl}
use mathlib.Core.Bool.{true, false}
use mathlib.Core.List.{List, [], ◌∷◌, ◌++◌, map}
use Rattle.octets.specs.Length.{encode_length, decode_length}
use Rattle.octets.specs.Number.{number, octets, decode_number, bare}
use Rattle.octets.specs.Frame.{opening, heading, enclosed, decode, encode, receive}
use Rattle.octets.specs.declared.Access.TheVariants.{Plain}
use Rattle.octets.specs.declared.Port.{Port}
use Rattle.octets.specs.declared.Port.TheVariants.{Normal, Secure}
use Rattle.resources.specs.Resource.{mode_known}
use Rattle.requests.specs.Command.{known}
use Rattle.requests.specs.Request.{request_body}
use Rattle.answers.specs.Answer.{answer_body}
use Rattle.answers.proofs.Worked.{k, p, times}
use Rattle.admission.specs.Admission.{unit_managed, admission}
use Rattle.admission.specs.declared.Mode.TheVariants.{ReadOnly}
use Rattle.rows.specs.Keyed.{look, change, without}
use Rattle.store.specs.Model.{State, new_unit, first_kind, total}
use Rattle.store.specs.Steps.{registered, write_step, free_step, allocate_step, read_step, fit_step}
use Rattle.responder.specs.Respond.{allocate_done, free_done, write_done, read_done, all_told, resources_done, all_reads, bulk_read_done, all_writes, bulk_write_done, act, fitted, first_lines, handled, respond}
use Rattle.responder.specs.Demands.{results}
use Rattle.responder.specs.Entry.{spoken}
use Rattle.responder.proofs.Starred.{fresh, plain, locked}

-- K with its six ignored bits set; a tag that the unit manages
abbrev pub k3f : List ℕ
k3f = 0x3f ∷ 0x11 ∷ 0x22 ∷ 0x33 ∷ 0x44 ∷ 0x55 ∷ 0x66 ∷ 0x77 ∷ []

abbrev pub U : ℕ
U = 0x4011223344556677

abbrev pub u : List ℕ
u = 0x40 ∷ 0x11 ∷ 0x22 ∷ 0x33 ∷ 0x44 ∷ 0x55 ∷ 0x66 ∷ 0x77 ∷ []

-- octets so many times over
abbrev pub repeated : ℕ → List ℕ → List ℕ
repeated zero xs = []
repeated (suc n) xs = xs ++ repeated n xs

-- a unit, and requests one after another with their replies
pub record Case : Type 0 where
  pub unit : State
  pub lines : List (List ℕ × List ℕ)

abbrev pub on : State → List (List ℕ × List ℕ) → Case
on unit lines = record { unit = unit; lines = lines }

-- ---- the cases

-- "in the unit's answers they are zero": a tag whose six ignored bits are set, in each command on a registered tag
abbrev pub ignored : Case
ignored =
    on plain (
    ((0x10 ∷ 0x01 ∷ 0x03 ∷ 0x00 ∷ 0x08 ∷ []) ++ k3f, (0x10 ∷ 0x01 ∷ 0x83 ∷ 0x00 ∷ 0x09 ∷ []) ++ k ++ (0x00 ∷ []))
    ∷ ((0x10 ∷ 0x01 ∷ 0x05 ∷ 0x00 ∷ 0x09 ∷ 0x01 ∷ []) ++ k3f, (0x10 ∷ 0x01 ∷ 0x85 ∷ 0x00 ∷ 0x0a ∷ 0x01 ∷ []) ++ k ++ (0x00 ∷ []))
    ∷ ((0x10 ∷ 0x01 ∷ 0x04 ∷ 0x00 ∷ 0x0a ∷ []) ++ k3f ++ (0x01 ∷ 0xaa ∷ []), (0x10 ∷ 0x01 ∷ 0x84 ∷ 0x00 ∷ 0x08 ∷ []) ++ k)
    ∷ ((0x10 ∷ 0x01 ∷ 0x06 ∷ 0x00 ∷ 0x0b ∷ 0x01 ∷ []) ++ k3f ++ (0x01 ∷ 0xaa ∷ []), (0x10 ∷ 0x01 ∷ 0x86 ∷ 0x00 ∷ 0x09 ∷ 0x01 ∷ []) ++ k)
    ∷ ((0x10 ∷ 0x01 ∷ 0x02 ∷ 0x00 ∷ 0x08 ∷ []) ++ k3f, (0x10 ∷ 0x01 ∷ 0x82 ∷ 0x00 ∷ 0x08 ∷ []) ++ k)
    ∷ []
    )

-- and in its allocation
abbrev pub ignored_at_first : Case
ignored_at_first =
    on fresh (
    ((0x10 ∷ 0x01 ∷ 0x01 ∷ 0x00 ∷ 0x0e ∷ []) ++ k3f ++ (0x00 ∷ 0x00 ∷ 0x00 ∷ 0x00 ∷ 0x01 ∷ 0x00 ∷ []), (0x10 ∷ 0x01 ∷ 0x81 ∷ 0x00 ∷ 0x08 ∷ []) ++ k)
    ∷ []
    )

-- the greatest version, and the least
abbrev pub last_version : Case
last_version =
    on (new_unit first_kind 15 true true) (
    (0x10 ∷ [], 0xf0 ∷ 0xff ∷ 0x04 ∷ 0x01 ∷ 0xf0 ∷ [])
    ∷ (0xf0 ∷ 0x01 ∷ 0x07 ∷ [], 0xf0 ∷ 0xff ∷ 0x0c ∷ 0x00 ∷ [])
    ∷ []
    )

abbrev pub first_version : Case
first_version =
    on (new_unit first_kind 0 true true) (
    (0x10 ∷ [], 0x00 ∷ 0xff ∷ 0x04 ∷ 0x01 ∷ 0x00 ∷ [])
    ∷ (0x00 ∷ 0x01 ∷ 0x05 ∷ 0x00 ∷ 0x01 ∷ 0x00 ∷ [], 0x00 ∷ 0x01 ∷ 0x85 ∷ 0x00 ∷ 0x01 ∷ 0x00 ∷ [])
    ∷ []
    )

-- without the allocation option: no room is told; passwords are read
abbrev pub no_allocation : Case
no_allocation =
    on (new_unit first_kind 1 false true) (
    (0x10 ∷ 0x01 ∷ 0x02 ∷ [], 0x10 ∷ 0xff ∷ 0x0c ∷ 0x00 ∷ [])
    ∷ (0x10 ∷ 0x01 ∷ 0x41 ∷ [], 0x10 ∷ 0xff ∷ 0x0c ∷ 0x00 ∷ [])
    ∷ ((0x10 ∷ 0x01 ∷ 0x43 ∷ 0x00 ∷ 0x10 ∷ []) ++ k ++ p, 0x10 ∷ 0xff ∷ 0x06 ∷ 0x00 ∷ [])
    ∷ (0x10 ∷ 0x01 ∷ 0x00 ∷ 0x00 ∷ 0x01 ∷ 0x00 ∷ [], (0x10 ∷ 0x01 ∷ 0x80 ∷ 0x00 ∷ 0x13 ∷ 0x00 ∷ 0x00 ∷ 0x08 ∷ 0x00 ∷ []) ++ times 12 0x00 ++ (0x00 ∷ 0x10 ∷ 0x00 ∷ []))
    ∷ []
    )

-- without the password option
abbrev pub no_passwords : Case
no_passwords =
    on (new_unit first_kind 1 true false) (
    (0x10 ∷ 0x01 ∷ 0x42 ∷ [], 0x10 ∷ 0xff ∷ 0x0c ∷ 0x00 ∷ [])
    ∷ (0x10 ∷ 0x01 ∷ 0x44 ∷ [], 0x10 ∷ 0xff ∷ 0x0c ∷ 0x00 ∷ [])
    ∷ (0x10 ∷ 0x01 ∷ 0x45 ∷ [], 0x10 ∷ 0xff ∷ 0x0c ∷ 0x00 ∷ [])
    ∷ (0x10 ∷ 0x01 ∷ 0x46 ∷ [], 0x10 ∷ 0xff ∷ 0x0c ∷ 0x00 ∷ [])
    ∷ []
    )

-- without both
abbrev pub neither : Case
neither =
    on (new_unit first_kind 1 false false) (
    ((0x10 ∷ 0x01 ∷ 0x03 ∷ 0x00 ∷ 0x08 ∷ []) ++ k, 0x10 ∷ 0xff ∷ 0x06 ∷ 0x00 ∷ [])
    ∷ []
    )

-- "repeats included": a tag twice in one list is written twice, read twice and told of twice
abbrev pub repeats : Case
repeats =
    on plain (
    ((0x10 ∷ 0x01 ∷ 0x06 ∷ 0x00 ∷ 0x15 ∷ 0x02 ∷ []) ++ k ++ (0x01 ∷ 0xaa ∷ []) ++ k ++ (0x01 ∷ 0xbb ∷ []), (0x10 ∷ 0x01 ∷ 0x86 ∷ 0x00 ∷ 0x11 ∷ 0x02 ∷ []) ++ k ++ k)
    ∷ ((0x10 ∷ 0x01 ∷ 0x05 ∷ 0x00 ∷ 0x11 ∷ 0x02 ∷ []) ++ k ++ k, (0x10 ∷ 0x01 ∷ 0x85 ∷ 0x00 ∷ 0x15 ∷ 0x02 ∷ []) ++ k ++ (0x01 ∷ 0xbb ∷ []) ++ k ++ (0x01 ∷ 0xbb ∷ []))
    ∷ ((0x10 ∷ 0x01 ∷ 0x00 ∷ 0x00 ∷ 0x11 ∷ 0x02 ∷ []) ++ k ++ k, (0x10 ∷ 0x01 ∷ 0x80 ∷ 0x00 ∷ 0x35 ∷ 0x00 ∷ 0x00 ∷ 0x08 ∷ 0x00 ∷ 0x00 ∷ 0x1f ∷ 0x00 ∷ 0x00 ∷ 0x1f ∷ 0xff ∷ 0x00 ∷ 0x1f ∷ 0x00 ∷ 0x00 ∷ 0x1f ∷ 0xff ∷ 0x00 ∷ 0x10 ∷ 0x02 ∷ []) ++ k ++ (0x00 ∷ 0x00 ∷ 0x00 ∷ 0x00 ∷ 0x01 ∷ 0x00 ∷ 0x00 ∷ 0x00 ∷ 0x01 ∷ []) ++ k ++ (0x00 ∷ 0x00 ∷ 0x00 ∷ 0x00 ∷ 0x01 ∷ 0x00 ∷ 0x00 ∷ 0x00 ∷ 0x01 ∷ []))
    ∷ []
    )

-- sixteen names in an answer, whose length then takes two octets
abbrev pub sixteen : Case
sixteen =
    on plain (
    ((0x10 ∷ 0x01 ∷ 0x06 ∷ 0x00 ∷ 0x80 ∷ 0x91 ∷ 0x10 ∷ []) ++ repeated 16 (k ++ 0x00 ∷ []), (0x10 ∷ 0x01 ∷ 0x86 ∷ 0x00 ∷ 0x80 ∷ 0x81 ∷ 0x10 ∷ []) ++ repeated 16 k)
    ∷ []
    )

-- a request of exactly 2,048 octets is read: 255 entries; a seventeenth entry that is cut is 16 before 7; fill before operation type
abbrev pub longest : Case
longest =
    on fresh (
    ((0x10 ∷ 0x01 ∷ 0x05 ∷ 0x00 ∷ 0x87 ∷ 0xfa ∷ 0x80 ∷ 0xff ∷ []) ++ times 2040 0x00, 0x10 ∷ 0xff ∷ 0x07 ∷ 0x00 ∷ [])
    ∷ ((0x10 ∷ 0x01 ∷ 0x05 ∷ 0x00 ∷ 0x80 ∷ 0x88 ∷ 0x11 ∷ []) ++ times 135 0x00, 0x10 ∷ 0xff ∷ 0x10 ∷ 0x00 ∷ [])
    ∷ (0x11 ∷ 0x01 ∷ 0x07 ∷ [], 0x10 ∷ 0xff ∷ 0x10 ∷ 0x00 ∷ [])
    ∷ []
    )

-- a tag with a password is told of; the owner's incident: a plain bulk write of it passes it over, and it holds nothing afterwards
abbrev pub told : Case
told =
    on locked (
    ((0x10 ∷ 0x01 ∷ 0x00 ∷ 0x00 ∷ 0x09 ∷ 0x01 ∷ []) ++ k, (0x10 ∷ 0x01 ∷ 0x80 ∷ 0x00 ∷ 0x24 ∷ 0x00 ∷ 0x00 ∷ 0x08 ∷ 0x00 ∷ 0x00 ∷ 0x1f ∷ 0x00 ∷ 0x00 ∷ 0x1f ∷ 0xff ∷ 0x00 ∷ 0x1f ∷ 0x00 ∷ 0x00 ∷ 0x1f ∷ 0xff ∷ 0x00 ∷ 0x10 ∷ 0x01 ∷ []) ++ k ++ (0x00 ∷ 0x00 ∷ 0x00 ∷ 0x00 ∷ 0x00 ∷ 0x00 ∷ 0x00 ∷ 0x00 ∷ 0x01 ∷ []))
    ∷ ((0x10 ∷ 0x01 ∷ 0x06 ∷ 0x00 ∷ 0x0b ∷ 0x01 ∷ []) ++ k ++ (0x01 ∷ 0xaa ∷ []), 0x10 ∷ 0x01 ∷ 0x86 ∷ 0x00 ∷ 0x01 ∷ 0x00 ∷ [])
    ∷ ((0x10 ∷ 0x01 ∷ 0x43 ∷ 0x00 ∷ 0x10 ∷ []) ++ k ++ p, (0x10 ∷ 0x01 ∷ 0xc3 ∷ 0x00 ∷ 0x09 ∷ []) ++ k ++ (0x00 ∷ []))
    ∷ []
    )

-- a tag that the unit manages, fitted read only with two octets of data: told of and read as any other, neither written nor freed
abbrev pub fitted_tag : Case
fitted_tag =
    on (fit_step fresh U 4 ReadOnly false Plain (0xaa ∷ 0xbb ∷ [])).unit (
    ((0x10 ∷ 0x01 ∷ 0x00 ∷ 0x00 ∷ 0x09 ∷ 0x01 ∷ []) ++ u, (0x10 ∷ 0x01 ∷ 0x80 ∷ 0x00 ∷ 0x24 ∷ 0x00 ∷ 0x00 ∷ 0x08 ∷ 0x00 ∷ 0x00 ∷ 0x1f ∷ 0x00 ∷ 0x00 ∷ 0x1f ∷ 0xfc ∷ 0x00 ∷ 0x1f ∷ 0x00 ∷ 0x00 ∷ 0x1f ∷ 0xfc ∷ 0x00 ∷ 0x10 ∷ 0x01 ∷ []) ++ u ++ (0x02 ∷ 0x00 ∷ 0x00 ∷ 0x00 ∷ 0x02 ∷ 0x00 ∷ 0x00 ∷ 0x00 ∷ 0x04 ∷ []))
    ∷ ((0x10 ∷ 0x01 ∷ 0x03 ∷ 0x00 ∷ 0x08 ∷ []) ++ u, (0x10 ∷ 0x01 ∷ 0x83 ∷ 0x00 ∷ 0x0b ∷ []) ++ u ++ (0x02 ∷ 0xaa ∷ 0xbb ∷ []))
    ∷ ((0x10 ∷ 0x01 ∷ 0x04 ∷ 0x00 ∷ 0x0a ∷ []) ++ u ++ (0x01 ∷ 0xcc ∷ []), 0x10 ∷ 0xff ∷ 0x08 ∷ 0x00 ∷ [])
    ∷ ((0x10 ∷ 0x01 ∷ 0x02 ∷ 0x00 ∷ 0x08 ∷ []) ++ u, 0x10 ∷ 0xff ∷ 0x06 ∷ 0x00 ∷ [])
    ∷ []
    )

abbrev pub cases : List Case
cases = ignored ∷ ignored_at_first ∷ last_version ∷ first_version ∷ no_allocation ∷ no_passwords ∷ neither ∷ repeats ∷ sixteen ∷ longest ∷ told ∷ fitted_tag ∷ []

-- what the unit says to them by a port, one after another, and what the case says
abbrev pub said : Port → Case → List (List ℕ)
said port c = map spoken (results c.unit (map (λ (l : List ℕ × List ℕ). record { port = port; request = l.0; area = 2048 }) c.lines))

abbrev pub wanted : Case → List (List ℕ)
wanted c = map (λ (l : List ℕ × List ℕ). l.1) c.lines

-- every reply of every case, by either port
pub cases-hold : ◌≡◌ {A = List (List (List ℕ)) × List (List (List ℕ))} (map (said Normal) cases, map (said Secure) cases) (map wanted cases, map wanted cases)
unfolding results respond handled first_lines fitted known receive decode heading enclosed request_body decode_length decode_number number mode_known act allocate_done free_done write_done read_done all_told resources_done all_reads bulk_read_done all_writes bulk_write_done allocate_step free_step write_step read_step fit_step registered look change without admission unit_managed bare total answer_body encode opening octets encode_length
cases-hold = refl
