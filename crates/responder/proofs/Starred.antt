-- The starred exchanges of document 01, 'Known exchanges': one table of requests and replies with one proof, by computation, for both ports.
-- The units are those that a start gives and, where K is registered, those that a start and an allocation give.
use Prim.Native.Nat.{ℕ}
use mathlib.Core.Path.{◌≡◌, refl}
use mathlib.Core.Bool.{true}
use mathlib.Core.List.{List, [], ◌∷◌, ◌++◌, map}
use Rattle.octets.specs.Length.{encode_length, decode_length}
use Rattle.octets.specs.Number.{number, octets, decode_number, bare}
use Rattle.octets.specs.Frame.{opening, heading, enclosed, decode, encode, receive}
use Rattle.octets.specs.declared.Port.{Port}
use Rattle.octets.specs.declared.Port.TheVariants.{Normal, Secure}
use Rattle.resources.specs.Resource.{mode_known}
use Rattle.requests.specs.Command.{known}
use Rattle.requests.specs.Request.{request_body}
use Rattle.answers.specs.Answer.{answer_body}
use Rattle.answers.proofs.Worked.{K, k, p}
use Rattle.admission.specs.Admission.{unit_managed, admission}
use Rattle.rows.specs.Keyed.{look, change, without}
use Rattle.store.specs.Model.{State, new_unit, first_kind, total}
use Rattle.store.specs.Steps.{registered, held_by, write_step, free_step, allocate_step, read_step}
use Rattle.responder.specs.Respond.{allocate_done, free_done, write_done, read_done, all_told, resources_done, all_reads, bulk_read_done, all_writes, bulk_write_done, act, fitted, first_lines, handled, respond}
use Rattle.responder.specs.Entry.{spoken}

-- "Version 1, both options": a new unit; K registered "with area 1, both modes, no SPF", without a password and with P
abbrev pub fresh : State
fresh = new_unit first_kind 1 true true

abbrev pub plain : State
plain = (respond fresh Normal ((0x10 ∷ 0x01 ∷ 0x01 ∷ 0x00 ∷ 0x0e ∷ []) ++ k ++ (0x00 ∷ 0x00 ∷ 0x00 ∷ 0x00 ∷ 0x01 ∷ 0x00 ∷ [])) 2048).unit

abbrev pub locked : State
locked = (respond fresh Normal ((0x10 ∷ 0x01 ∷ 0x41 ∷ 0x00 ∷ 0x16 ∷ []) ++ k ++ (0x00 ∷ 0x00 ∷ 0x00 ∷ 0x00 ∷ 0x01 ∷ []) ++ p ++ (0x00 ∷ [])) 2048).unit

-- ---- the starred exchanges

-- a unit, the request, the reply, and what K holds afterwards
pub record Exchange : Type 0 where
  pub unit : State
  pub request : List ℕ
  pub reply : List ℕ
  pub held : List ℕ

abbrev pub exchange : State → List ℕ → List ℕ → List ℕ → Exchange
exchange unit request reply held = record { unit = unit; request = request; reply = reply; held = held }

abbrev pub table : List Exchange
table =
    exchange fresh [] (0x10 ∷ 0xff ∷ 0x10 ∷ 0x00 ∷ []) []
    ∷ exchange fresh (0x20 ∷ []) (0x10 ∷ 0xff ∷ 0x04 ∷ 0x01 ∷ 0x10 ∷ []) []
    ∷ exchange fresh (0x11 ∷ 0x01 ∷ 0x03 ∷ []) (0x10 ∷ 0xff ∷ 0x10 ∷ 0x00 ∷ []) []
    ∷ exchange fresh (0x10 ∷ 0x01 ∷ 0x07 ∷ []) (0x10 ∷ 0xff ∷ 0x0c ∷ 0x00 ∷ []) []
    ∷ exchange fresh (0x10 ∷ 0x01 ∷ 0x03 ∷ 0x01 ∷ []) (0x10 ∷ 0xff ∷ 0x10 ∷ 0x00 ∷ []) []
    ∷ exchange fresh ((0x10 ∷ 0x01 ∷ 0x03 ∷ 0x00 ∷ 0x08 ∷ []) ++ k) (0x10 ∷ 0xff ∷ 0x06 ∷ 0x00 ∷ []) []
    ∷ exchange locked ((0x10 ∷ 0x01 ∷ 0x03 ∷ 0x00 ∷ 0x08 ∷ []) ++ k) (0x10 ∷ 0xff ∷ 0x0a ∷ 0x00 ∷ []) []
    ∷ exchange locked (0x10 ∷ 0x01 ∷ 0x03 ∷ 0x00 ∷ 0x08 ∷ 0x3f ∷ 0x11 ∷ 0x22 ∷ 0x33 ∷ 0x44 ∷ 0x55 ∷ 0x66 ∷ 0x77 ∷ []) (0x10 ∷ 0xff ∷ 0x0a ∷ 0x00 ∷ []) []
    ∷ exchange locked (0x10 ∷ 0x01 ∷ 0x03 ∷ 0x00 ∷ 0x08 ∷ 0x80 ∷ 0x11 ∷ 0x22 ∷ 0x33 ∷ 0x44 ∷ 0x55 ∷ 0x66 ∷ 0x77 ∷ []) (0x10 ∷ 0xff ∷ 0x06 ∷ 0x00 ∷ []) []
    ∷ exchange locked ((0x10 ∷ 0x01 ∷ 0x03 ∷ 0x00 ∷ 0x80 ∷ 0x08 ∷ []) ++ k) (0x10 ∷ 0xff ∷ 0x10 ∷ 0x00 ∷ []) []
    ∷ exchange locked ((0x10 ∷ 0x01 ∷ 0x46 ∷ 0x00 ∷ 0x13 ∷ 0x01 ∷ []) ++ k ++ p ++ (0x01 ∷ 0xaa ∷ [])) ((0x10 ∷ 0x01 ∷ 0xc6 ∷ 0x00 ∷ 0x09 ∷ 0x01 ∷ []) ++ k) (0xaa ∷ [])
    ∷ exchange plain ((0x10 ∷ 0x01 ∷ 0x46 ∷ 0x00 ∷ 0x13 ∷ 0x01 ∷ []) ++ k ++ p ++ (0x01 ∷ 0xaa ∷ [])) (0x10 ∷ 0x01 ∷ 0xc6 ∷ 0x00 ∷ 0x01 ∷ 0x00 ∷ []) []
    ∷ []

-- what the definition gives for a row by a port, and what the row says
abbrev given : Port → Exchange → List ℕ × List ℕ
given port e = let o = respond e.unit port e.request 2048 in (spoken o.result, held_by (registered o.unit K))

abbrev wanted : Exchange → List ℕ × List ℕ
wanted e = (e.reply, e.held)

-- the twelve starred exchanges, by either port
pub starred : ◌≡◌ {A = List (List ℕ × List ℕ) × List (List ℕ × List ℕ)} (map (given Normal) table, map (given Secure) table) (map wanted table, map wanted table)
unfolding respond handled first_lines fitted known receive decode heading enclosed request_body decode_length decode_number number mode_known act allocate_done free_done write_done read_done all_told resources_done all_reads bulk_read_done all_writes bulk_write_done allocate_step free_step write_step read_step registered look change without admission unit_managed bare total answer_body encode opening octets encode_length
starred = refl

-- the unit after the accepted write; a read of K with P; what it gives
abbrev after : State
after = (respond locked Normal ((0x10 ∷ 0x01 ∷ 0x46 ∷ 0x00 ∷ 0x13 ∷ 0x01 ∷ []) ++ k ++ p ++ (0x01 ∷ 0xaa ∷ [])) 2048).unit

abbrev reading : List ℕ
reading = (0x10 ∷ 0x01 ∷ 0x43 ∷ 0x00 ∷ 0x10 ∷ []) ++ k ++ p

abbrev contents : List ℕ
contents = (0x10 ∷ 0x01 ∷ 0xc3 ∷ 0x00 ∷ 0x0a ∷ []) ++ k ++ (0x01 ∷ 0xaa ∷ [])

-- "K then holds AA": it is read back, by either port
pub held_after : (spoken (respond after Normal reading 2048).result ≡ contents) × (spoken (respond after Secure reading 2048).result ≡ contents)
unfolding respond handled first_lines fitted known receive decode heading enclosed request_body decode_length decode_number number mode_known act allocate_done free_done write_done read_done all_told resources_done all_reads bulk_read_done all_writes bulk_write_done allocate_step free_step write_step read_step registered look change without admission unit_managed bare total answer_body encode opening octets encode_length
held_after = (refl, refl)
