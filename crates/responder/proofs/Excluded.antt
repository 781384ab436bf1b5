-- Responders that do not meet the definition. Document 01, 'What the proofs have to say': "A responder that always denies, one with one constant reply, one that stores
-- nothing, one that handles a list's first entry and merely names the others, and one that invents the remaining room all satisfy demand 3 or nearly so; demand 2
-- excludes each of them." Beside these the errors that look reasonable: in lists, in the order of denials, and in what a denial is.
-- Each is refuted by an exchange that computes, with an answer area of 2,048 octets where nothing else is said.
use Prim.Native.Nat.{ℕ, ◌*◌, ◌≤◌}
use mathlib.Core.Path.{◌≡◌, refl, sym, ap, ◌∙◌}
use mathlib.Core.Bool.{true, false}
use mathlib.Core.List.{List, [], ◌∷◌, ◌++◌, map}
use native.Mathlib.Omega.{arith}
use lib.ListN.{length}
use lib.Dec.{leb}
use Rattle.octets.specs.Length.{encode_length, decode_length}
use Rattle.octets.specs.Number.{number, octets, decode_number, bare, version_part, fill_part}
use Rattle.octets.specs.Reading.{message, told}
use Rattle.octets.specs.Frame.{Message, opening, heading, enclosed, decode, encode, receive}
use Rattle.octets.specs.declared.Access.TheVariants.{Plain, Password}
use Rattle.octets.specs.declared.Form.TheVariants as form
use Rattle.octets.specs.declared.Port.{Port}
use Rattle.octets.specs.declared.Port.TheVariants.{Normal}
use Rattle.tags.specs.Entry.{Keyed, Held}
use Rattle.resources.specs.Resource.{mode_known}
use Rattle.resources.specs.declared.Resource.{Resource}
use Rattle.resources.specs.declared.Room.{Room}
use Rattle.requests.specs.Command.{known, form_at}
use Rattle.requests.specs.Request.{request, request_body, request_read}
use Rattle.requests.specs.Request as q
use Rattle.answers.specs.Answer.{Answer, accepted, denied, answer, answer_body, answer_octets, body_put}
use Rattle.answers.specs.Answer as b
use Rattle.answers.specs.Denial.{Denial}
use Rattle.answers.proofs.Worked.{K, W, P, k, w, times, left}
use Rattle.admission.specs.Admission.{unit_managed, admission}
use Rattle.admission.specs.declared.Mode.TheVariants.{Both}
use Rattle.admission.specs.Denial.{Denied}
use Rattle.rows.specs.Keyed.{here, look, change}
use Rattle.store.specs.Model.{State, Tag, first_kind, total, Shared, Valid}
use Rattle.store.specs.Steps.{registered, held_by, content, read_step, write_step, allocate_step}
use Rattle.store.proofs.Valid.{new-valid}
use Rattle.responder.specs.Respond.{denial, named, none, entries_of, Result, silent, replied, Out, allocate_done, write_done, read_done, all_reads, bulk_read_done, all_told, resources_done, all_writes, bulk_write_done, act, fitted, first_lines, handled, respond}
use Rattle.responder.specs.Demands.{final}
use Rattle.responder.specs.Entry.{spoken}
use Rattle.responder.proofs.Starred.{fresh, plain, locked}
use Rattle.responder.proofs.Kept.{respond-valid}
use Rattle.responder.proofs.Log.{log-sound}
use Rattle.responder.proofs.Runs.{command_of}
use Rattle.responder.proofs.Known.{filled, reading}

-- anything that replies and leaves a unit
abbrev pub Responder : Type 0
Responder = State → Port → List ℕ → ℕ → Out

-- a responder meets the definition
abbrev pub Meets : Responder → Type 0
Meets f = (u : State) (p : Port) (s : List ℕ) (area : ℕ) → f u p s area ≡ respond u p s area

-- a unit in order serves the request as that message: no line before the operation's own denies it
pub record Passes (u : State) (s : List ℕ) (m : Message q.Body) : Type 0 where
  pub valid : Valid u
  pub lines : first_lines u s ≡ none
  pub reads : told (request_read s) ≡ message m
  pub few : entries_of m.body ≤ 16

-- ---- exchanges

-- the first kind has the limits that every kind shares
first-shared : Shared first_kind
first-shared = record { area = omega arith; message = refl; list = refl }

-- the units here are in order: a new one,
fresh-valid : Valid fresh
fresh-valid = new-valid first_kind 1 true true first-shared (omega arith)

-- one with K
plain-valid : Valid plain
plain-valid = respond-valid fresh Normal _ 2048 fresh-valid

-- and one with K registered with P
locked-valid : Valid locked
locked-valid = respond-valid fresh Normal _ 2048 fresh-valid

-- what remains is asked
abbrev asking : List ℕ
asking = 0x10 ∷ 0x01 ∷ 0x00 ∷ 0x00 ∷ 0x01 ∷ 0x00 ∷ []

-- and a new unit tells it
tells : (respond fresh Normal asking 2048).result ≡ replied (accepted (answer 1 form.Plain (b.resource_information (left 32 8192, []))))
unfolding respond handled first_lines fitted known receive decode heading enclosed request_body decode_length decode_number number act all_told resources_done total
tells = refl

-- and so does one with a tag of one octet
tells-plain : (respond plain Normal asking 2048).result ≡ replied (accepted (answer 1 form.Plain (b.resource_information (left 31 8191, []))))
unfolding respond handled first_lines fitted known receive decode heading enclosed request_body decode_length decode_number number mode_known act allocate_done all_told resources_done allocate_step registered look admission unit_managed bare total
tells-plain = refl

-- it denies an empty request by 16
denies-16 : (respond fresh Normal [] 2048).result ≡ replied (denial 1 16)
unfolding respond handled first_lines
denies-16 = refl

-- and another version by 4
denies-4 : (respond fresh Normal (0x20 ∷ []) 2048).result ≡ replied (denial 1 4)
unfolding respond handled first_lines
denies-4 = refl

-- a write of K
abbrev writing : List ℕ
writing = (0x10 ∷ 0x01 ∷ 0x04 ∷ 0x00 ∷ 0x0a ∷ []) ++ k ++ (0x01 ∷ 0xaa ∷ [])

-- is stored
stores : (held_by (registered plain K) ≡ []) × (held_by (registered (respond plain Normal writing 2048).unit K) ≡ 0xaa ∷ [])
unfolding respond handled first_lines fitted known receive decode heading enclosed request_body decode_length decode_number number mode_known act allocate_done write_done allocate_step write_step registered look change admission unit_managed bare total
stores = (refl, refl)

-- a unit with K and W, for a list that writes both
abbrev two : State
two = (respond plain Normal ((0x10 ∷ 0x01 ∷ 0x01 ∷ 0x00 ∷ 0x0e ∷ []) ++ w ++ (0x00 ∷ 0x00 ∷ 0x00 ∷ 0x00 ∷ 0x01 ∷ 0x00 ∷ [])) 2048).unit

-- it is in order
two-valid : Valid two
two-valid = respond-valid plain Normal _ 2048 plain-valid

-- the list
abbrev listing : List ℕ
listing = (0x10 ∷ 0x01 ∷ 0x06 ∷ 0x00 ∷ 0x15 ∷ 0x02 ∷ []) ++ k ++ (0x01 ∷ 0xaa ∷ []) ++ w ++ (0x01 ∷ 0xbb ∷ [])

-- its entries
abbrev first : Held
first = ((K, Plain), 0xaa ∷ [])

abbrev second : Held
second = ((W, Plain), 0xbb ∷ [])

-- as a message
abbrev both : Message q.Body
both = request 1 form.Plain (q.bulk_write (first ∷ second ∷ []))

-- as which it is served, where W is registered
passes-both : Passes two listing both
unfolding respond handled first_lines fitted known receive decode heading enclosed request_body decode_length decode_number number mode_known act allocate_done write_done read_done all_reads bulk_read_done all_writes bulk_write_done allocate_step write_step read_step registered look change admission unit_managed bare total
passes-both = record { valid = two-valid; lines = refl; reads = refl; few = omega arith }

-- and where it is not
passes-plain : Passes plain listing both
unfolding respond handled first_lines fitted known receive decode heading enclosed request_body decode_length decode_number number mode_known act allocate_done write_done read_done all_reads bulk_read_done all_writes bulk_write_done allocate_step write_step read_step registered look change admission unit_managed bare total
passes-plain = record { valid = plain-valid; lines = refl; reads = refl; few = omega arith }

-- both are stored; the first alone leaves W as it was
stores_both : (held_by (registered (respond two Normal listing 2048).unit W) ≡ 0xbb ∷ []) × (held_by (registered (write_step two K (0xaa ∷ []) Normal Plain).unit W) ≡ [])
unfolding respond handled first_lines fitted known receive decode heading enclosed request_body decode_length decode_number number mode_known act allocate_done all_writes bulk_write_done allocate_step write_step registered look change admission unit_managed bare total
stores_both = (refl, refl)

-- ---- document 01's five

-- one octet is not none
one_none : {x : ℕ} → x ∷ [] ≡ [] → ⊥
one_none e = cc

-- the status of a denial
abbrev status_of : Result → ℕ
status_of (silent n) = 0
status_of (replied (accepted m)) = 0
status_of (replied (denied d)) = d.status

module _ (f : Responder) where
  -- never an answer, whatever the denial
  abbrev pub AlwaysDenies : Type 0
  AlwaysDenies = (u : State) (p : Port) (s : List ℕ) (area : ℕ) (m : Message b.Body) → (f u p s area).result ≡ replied (accepted m) → ⊥

  -- one that always denies does not meet the definition
  pub denier-excluded : AlwaysDenies → Meets f → ⊥
  denier-excluded d h = d fresh Normal asking 2048 _ (ap (λ (o : Out). o.result) (h fresh Normal asking 2048) ∙ tells)

  -- one reply to everything
  abbrev pub Constant : Result → Type 0
  Constant r = (u : State) (p : Port) (s : List ℕ) → (f u p s 2048).result ≡ r

  -- one with a constant reply does not
  pub constant-excluded : (r : Result) → Constant r → Meets f → ⊥
  constant-excluded r c h =
      let x : r ≡ replied (denial 1 16) = sym (c fresh Normal []) ∙ ap (λ (o : Out). o.result) (h fresh Normal [] 2048) ∙ denies-16 in
      let y : r ≡ replied (denial 1 4) = sym (c fresh Normal (0x20 ∷ [])) ∙ ap (λ (o : Out). o.result) (h fresh Normal (0x20 ∷ []) 2048) ∙ denies-4 in
      let z : ◌≡◌ {A = ℕ} 16 4 = ap status_of (sym x ∙ y) in
      omega (arith, z)

  -- no tag ever holds other octets than before
  abbrev pub StoresNoData : Type 0
  StoresNoData = (u : State) (p : Port) (s : List ℕ) (area x : ℕ) → held_by (registered (f u p s area).unit x) ≡ held_by (registered u x)

  -- one that stores no data does not,
  pub no-data-excluded : StoresNoData → Meets f → ⊥
  no-data-excluded d h =
      one_none (sym stores.1 ∙ ap (λ (o : Out). held_by (registered o.unit K)) (sym (h plain Normal writing 2048)) ∙ d plain Normal writing 2048 K ∙ stores.0)

  -- the unit afterwards is always the unit before
  abbrev pub StoresNothing : Type 0
  StoresNothing = (u : State) (p : Port) (s : List ℕ) (area : ℕ) → (f u p s area).unit ≡ u

  -- and so one that stores nothing at all does not
  pub nothing-excluded : StoresNothing → Meets f → ⊥
  nothing-excluded d = no-data-excluded (λ u p s area x. ap (λ (v : State). held_by (registered v x)) (d u p s area))

  -- a bulk write leaves what its first entry alone would leave, whatever is replied
  abbrev pub FirstOnly : Type 0
  FirstOnly = (u : State) (p : Port) (s : List ℕ) (m : Message q.Body) (h : Held) (hs : List Held) → Passes u s m → m.body ≡ q.bulk_write (h ∷ hs)
      → (f u p s 2048).unit ≡ (write_step u h.0.0 h.1 p h.0.1).unit

  -- one that handles the first entry and merely names the others does not
  pub first-only-excluded : FirstOnly → Meets f → ⊥
  first-only-excluded d h =
      one_none
      (sym stores_both.0
      ∙ ap (λ (o : Out). held_by (registered o.unit W)) (sym (h two Normal listing 2048))
      ∙ ap (λ (v : State). held_by (registered v W)) (d two Normal listing both first (second ∷ []) passes-both refl)
      ∙ stores_both.1)

  -- what is told to remain is g of the unit
  abbrev pub TellsRoom : (State → Room) → Type 0
  TellsRoom g = (u : State) (p : Port) (s : List ℕ) (area v : ℕ) (x : Room) (rs : List Resource)
      → (f u p s area).result ≡ replied (accepted (answer v form.Plain (b.resource_information (x, rs)))) → x ≡ g u

  -- one that tells anything but 32 tags and 8,192 octets of a new unit, or anything but 31 and 8,191 of one with a tag of one octet, does not
  pub invented-excluded : (g : State → Room) → ((g fresh ≡ left 32 8192) × (g plain ≡ left 31 8191) → ⊥) → TellsRoom g → Meets f → ⊥
  invented-excluded g n d h =
      n (
        sym (d fresh Normal asking 2048 1 (left 32 8192) [] (ap (λ (o : Out). o.result) (h fresh Normal asking 2048) ∙ tells)),
        sym (d plain Normal asking 2048 1 (left 31 8191) [] (ap (λ (o : Out). o.result) (h plain Normal asking 2048) ∙ tells-plain)),
      )

  -- one that always tells 0
  pub none-left-excluded : TellsRoom (λ u. left 0 0) → Meets f → ⊥
  none-left-excluded = invented-excluded (λ u. left 0 0) (λ e. let i : ◌≡◌ {A = ℕ} 0 8192 = ap (λ (x : Room). x.octets) e.0 in omega (arith, i))

  -- one that always tells the whole
  pub whole-left-excluded : TellsRoom (λ u. left 32 8192) → Meets f → ⊥
  whole-left-excluded = invented-excluded (λ u. left 32 8192) (λ e. let i : ◌≡◌ {A = ℕ} 8192 8191 = ap (λ (x : Room). x.octets) e.1 in omega (arith, i))

-- ---- errors in lists

-- a list whose first tag, W, is not registered and whose second, K, is
abbrev later : List ℕ
later = (0x10 ∷ 0x01 ∷ 0x06 ∷ 0x00 ∷ 0x15 ∷ 0x02 ∷ []) ++ w ++ (0x01 ∷ 0xbb ∷ []) ++ k ++ (0x01 ∷ 0xaa ∷ [])

-- as a message
abbrev turned : Message q.Body
turned = request 1 form.Plain (q.bulk_write (second ∷ first ∷ []))

-- as which it is served
passes-later : Passes plain later turned
unfolding respond handled first_lines fitted known receive decode heading enclosed request_body decode_length decode_number number mode_known act allocate_done write_done read_done all_reads bulk_read_done all_writes bulk_write_done allocate_step write_step read_step registered look change admission unit_managed bare total
passes-later = record { valid = plain-valid; lines = refl; reads = refl; few = omega arith }

-- the first is denied, and the second is stored all the same
stores-later : ((write_step plain W (0xbb ∷ []) Normal Plain).answer ≡ Denied 6) × (held_by (registered (respond plain Normal later 2048).unit K) ≡ 0xaa ∷ [])
unfolding respond handled first_lines fitted known receive decode heading enclosed request_body decode_length decode_number number mode_known act allocate_done write_done read_done all_reads bulk_read_done all_writes bulk_write_done allocate_step write_step read_step registered look change admission unit_managed bare total
stores-later = (refl, refl)

-- the other way about: the second is denied, and the first stays stored
stores-earlier : ((write_step (write_step plain K (0xaa ∷ []) Normal Plain).unit W (0xbb ∷ []) Normal Plain).answer ≡ Denied 6)
    × (held_by (registered (respond plain Normal listing 2048).unit K) ≡ 0xaa ∷ [])
unfolding respond handled first_lines fitted known receive decode heading enclosed request_body decode_length decode_number number mode_known act allocate_done write_done read_done all_reads bulk_read_done all_writes bulk_write_done allocate_step write_step read_step registered look change admission unit_managed bare total
stores-earlier = (refl, refl)

-- a plain bulk write of K
abbrev plainly : List ℕ
plainly = (0x10 ∷ 0x01 ∷ 0x06 ∷ 0x00 ∷ 0x0b ∷ 0x01 ∷ []) ++ k ++ (0x01 ∷ 0xaa ∷ [])

-- as a message
abbrev alone : Message q.Body
alone = request 1 form.Plain (q.bulk_write (first ∷ []))

-- as which it is served
passes-plainly : Passes locked plainly alone
unfolding respond handled first_lines fitted known receive decode heading enclosed request_body decode_length decode_number number mode_known act allocate_done write_done read_done all_reads bulk_read_done all_writes bulk_write_done allocate_step write_step read_step registered look change admission unit_managed bare total
passes-plainly = record { valid = locked-valid; lines = refl; reads = refl; few = omega arith }

-- K registered with P
abbrev guarded : Tag
guarded = record { about = record { tag = K; size = 1; mode = Both; spf = false; lock = Password P }; held = [] }

-- it is not written; by its password it would be
keeps-guarded : (registered locked K ≡ here guarded)
    × (held_by (registered (respond locked Normal plainly 2048).unit K) ≡ [])
    × (held_by (registered (write_step locked K (0xaa ∷ []) Normal (Password P)).unit K) ≡ 0xaa ∷ [])
unfolding respond handled first_lines fitted known receive decode heading enclosed request_body decode_length decode_number number mode_known act allocate_done write_done read_done all_reads bulk_read_done all_writes bulk_write_done allocate_step write_step read_step registered look change admission unit_managed bare total
keeps-guarded = (refl, refl, refl)

-- a unit with tags holding 1,024, 1,024 and 997 octets, and the entries that read them
abbrev full : State
full = final fresh (map command_of filled)

abbrev entry : ℕ → Keyed
entry n = (n, Plain)

-- the bulk read of the three, as a message
abbrev three : Message q.Body
three = request 1 form.Plain (q.bulk_read (entry 1 ∷ entry 2 ∷ entry 3 ∷ []))

-- as which it is served
passes-three : Passes full reading three
unfolding final respond handled first_lines fitted known receive decode heading enclosed request_body decode_length decode_number number mode_known act allocate_done write_done read_done all_reads bulk_read_done all_writes bulk_write_done allocate_step write_step read_step registered look change admission unit_managed bare total
passes-three = record { valid = log-sound first_kind 1 true true (map command_of filled) first-shared (omega arith); lines = refl; reads = refl; few = omega arith }

-- the second does not fit behind the first
second-over : (read_step full 2 Normal Plain ≡ content (times 1024 0xbb))
    × (leb (length (body_put (b.bulk_read (all_reads full Normal [] (entry 1 ∷ []) ++ (named 2, times 1024 0xbb) ∷ [])))) 2042 ≡ false)
unfolding final respond handled first_lines fitted known receive decode heading enclosed request_body decode_length decode_number number mode_known act allocate_done write_done read_done all_reads bulk_read_done all_writes bulk_write_done allocate_step write_step read_step registered look change admission unit_managed bare total answer_body octets encode_length
second-over = (refl, refl)

-- the first and the third are given, in 2,048 octets, where the first alone has 1,041
gives-two : (length (spoken (respond full Normal reading 2048).result) ≡ 2048)
    × (length (answer_octets (accepted (answer full.version form.Plain (b.bulk_read (all_reads full Normal [] (entry 1 ∷ [])))))) ≡ 1041)
unfolding final respond handled first_lines fitted known receive decode heading enclosed request_body decode_length decode_number number mode_known act allocate_done write_done read_done all_reads bulk_read_done all_writes bulk_write_done allocate_step write_step read_step registered look change admission unit_managed bare total answer_body encode opening octets encode_length
gives-two = (refl, refl)

module _ (f : Responder) where
  -- a bulk write whose first entry is denied leaves the unit as it was, whatever follows
  abbrev pub EndsAtDenied : Type 0
  EndsAtDenied = (u : State) (p : Port) (s : List ℕ) (m : Message q.Body) (h : Held) (hs : List Held) (n : ℕ) → Passes u s m
      → m.body ≡ q.bulk_write (h ∷ hs) → (write_step u h.0.0 h.1 p h.0.1).answer ≡ Denied n → (f u p s 2048).unit ≡ u

  -- one that ends a bulk write at the first entry that it denies does not meet the definition
  pub ends-excluded : EndsAtDenied → Meets f → ⊥
  ends-excluded d h =
      one_none
      (sym stores-later.1
      ∙ ap (λ (o : Out). held_by (registered o.unit K)) (sym (h plain Normal later 2048))
      ∙ ap (λ (v : State). held_by (registered v K)) (d plain Normal later turned second (first ∷ []) 6 passes-later refl stores-later.0)
      ∙ stores.0)

  -- a bulk write whose second entry is denied leaves the unit as it was
  abbrev pub UndoesEarlier : Type 0
  UndoesEarlier = (u : State) (p : Port) (s : List ℕ) (m : Message q.Body) (h g : Held) (n : ℕ) → Passes u s m
      → m.body ≡ q.bulk_write (h ∷ g ∷ []) → (write_step (write_step u h.0.0 h.1 p h.0.1).unit g.0.0 g.1 p g.0.1).answer ≡ Denied n
      → (f u p s 2048).unit ≡ u

  -- one that undoes earlier writes where a later entry is denied does not
  pub undoes-excluded : UndoesEarlier → Meets f → ⊥
  undoes-excluded d h =
      one_none
      (sym stores-earlier.1
      ∙ ap (λ (o : Out). held_by (registered o.unit K)) (sym (h plain Normal listing 2048))
      ∙ ap (λ (v : State). held_by (registered v K)) (d plain Normal listing both first second 6 passes-plain refl stores-earlier.0)
      ∙ stores.0)

  -- a bulk write of one entry leaves what the tag's own password would have it leave, whatever the entry carries
  abbrev pub SinglesOnly : Type 0
  SinglesOnly = (u : State) (p : Port) (s : List ℕ) (m : Message q.Body) (h : Held) (t : Tag) → Passes u s m → m.body ≡ q.bulk_write (h ∷ [])
      → registered u h.0.0 ≡ here t → (f u p s 2048).unit ≡ (write_step u h.0.0 h.1 p t.about.lock).unit

  -- one that checks passwords in single commands only, the fault that was inherited, does not
  pub singles-excluded : SinglesOnly → Meets f → ⊥
  singles-excluded d h =
      one_none
      (sym keeps-guarded.2
      ∙ ap (λ (v : State). held_by (registered v K)) (sym (d locked Normal plainly alone first guarded passes-plainly refl keeps-guarded.0))
      ∙ ap (λ (o : Out). held_by (registered o.unit K)) (h locked Normal plainly 2048)
      ∙ keeps-guarded.1)

  -- a bulk read whose second entry does not fit behind the first gives the first, and no more
  abbrev pub StopsWhereFull : Type 0
  StopsWhereFull = (u : State) (p : Port) (s : List ℕ) (m : Message q.Body) (i j : Keyed) (ks : List Keyed) (xs : List ℕ) → Passes u s m
      → m.body ≡ q.bulk_read (i ∷ j ∷ ks) → read_step u j.0 p j.1 ≡ content xs
      → leb (length (body_put (b.bulk_read (all_reads u p [] (i ∷ []) ++ (named j.0, xs) ∷ [])))) 2042 ≡ false
      → (f u p s 2048).result ≡ replied (accepted (answer u.version (form_at m.kind) (b.bulk_read (all_reads u p [] (i ∷ [])))))

  -- one that stops a bulk read at the first entry that does not fit does not
  pub stops-excluded : StopsWhereFull → Meets f → ⊥
  stops-excluded d h =
      let z : ◌≡◌ {A = ℕ} 2048 1041 =
      sym gives-two.0
      ∙ ap (λ (o : Out). length (spoken o.result)) (sym (h full Normal reading 2048))
      ∙ ap (λ (r : Result). length (spoken r)) (d full Normal reading three (entry 1) (entry 2) (entry 3 ∷ []) (times 1024 0xbb) passes-three refl second-over.0 second-over.1)
      ∙ gives-two.1 in
      omega (arith, z)

-- ---- errors in the order of denials, and in what a denial is

-- seventeen entries and a stray octet, as a bulk read
abbrev strayed : List ℕ → ℕ → List ℕ
strayed entries x = (0x10 ∷ 0x01 ∷ 0x05 ∷ 0x00 ∷ 0x80 ∷ 0x8a ∷ 0x11 ∷ []) ++ entries ++ x ∷ []

-- are denied by 16, 7 or not
denies-strayed : (respond fresh Normal (strayed (times 136 0x00) 0x00) 2048).result ≡ replied (denial 1 16)
unfolding respond handled first_lines fitted known receive decode heading enclosed request_body decode_length decode_number number
denies-strayed = refl

-- an operation type that is not in the table is denied by 12, whatever the profile
denies-12 : (respond fresh Normal (0x10 ∷ 0x01 ∷ 0x07 ∷ 0x01 ∷ []) 2048).result ≡ replied (denial 1 12)
unfolding respond handled first_lines fitted known
denies-12 = refl

-- another version by 4, whatever the fill
denies-filled : (respond fresh Normal (0x21 ∷ []) 2048).result ≡ replied (denial 1 4)
unfolding respond handled first_lines
denies-filled = refl

-- in an area of 2,047 octets there is no answer
no_answer : (respond fresh Normal [] 2047).result ≡ silent 300
unfolding respond
no_answer = refl

-- though the denial has four
denial-short : length (answer_octets (denial 1 16)) ≡ 4
unfolding opening octets encode_length encode
denial-short = refl

module _ (f : Responder) where
  -- what meets the definition denies by the definition's number
  same-status : (u : State) (p : Port) (s : List ℕ) (n m : ℕ) → (respond u p s 2048).result ≡ replied (denial 1 n) → (f u p s 2048).result ≡ replied (denial 1 m) → Meets f → n ≡ m
  same-status u p s n m e d h = ap status_of (sym e ∙ ap (λ (o : Out). o.result) (sym (h u p s 2048)) ∙ d)

  -- seventeen entries are denied by 7, a stray octet behind them or not
  abbrev pub CountsFirst : Type 0
  CountsFirst = (u : State) (p : Port) (entries : List ℕ) (x : ℕ) → Valid u → u.version ≡ 1 → length entries ≡ 136 → (f u p (strayed entries x) 2048).result ≡ replied (denial 1 7)

  -- one that gives 7 before 16 does not meet the definition
  pub counts-excluded : CountsFirst → Meets f → ⊥
  counts-excluded d h =
      let z : ◌≡◌ {A = ℕ} 16 7 = same-status fresh Normal (strayed (times 136 0x00) 0x00) 16 7 denies-strayed (d fresh Normal (times 136 0x00) 0x00 fresh-valid refl refl) h in
      omega (arith, z)

  -- another security profile than 0 is denied by 16, whatever the operation type
  abbrev pub ProfileFirst : Type 0
  ProfileFirst = (u : State) (p : Port) (kind profile : ℕ) (rest : List ℕ) → Valid u → (profile ≡ 0 → ⊥)
      → (f u p (u.version * 16 ∷ 0x01 ∷ kind ∷ profile ∷ rest) 2048).result ≡ replied (denial u.version 16)

  -- one that gives 12 after the profile does not
  pub profile-excluded : ProfileFirst → Meets f → ⊥
  profile-excluded d h =
      let z : ◌≡◌ {A = ℕ} 12 16 = same-status fresh Normal (0x10 ∷ 0x01 ∷ 0x07 ∷ 0x01 ∷ []) 12 16 denies-12 (d fresh Normal 0x07 0x01 [] fresh-valid (λ e. omega (arith, e))) h in
      omega (arith, z)

  -- fill bits that are not zero are denied by 16, whatever the version
  abbrev pub FillFirst : Type 0
  FillFirst = (u : State) (p : Port) (x : ℕ) (rest : List ℕ) → Valid u → (fill_part x ≡ 0 → ⊥) → (f u p (x ∷ rest) 2048).result ≡ replied (denial u.version 16)

  -- one that tests the version after the fill does not
  pub fill-excluded : FillFirst → Meets f → ⊥
  fill-excluded d h =
      let z : ◌≡◌ {A = ℕ} 4 16 = same-status fresh Normal (0x21 ∷ []) 4 16 denies-filled (d fresh Normal 0x21 [] fresh-valid (λ e. let i : ◌≡◌ {A = ℕ} 1 0 = e in omega (arith, i))) h in
      omega (arith, z)

  -- a denial has the version of the request
  abbrev pub EchoesVersion : Type 0
  EchoesVersion = (u : State) (p : Port) (x : ℕ) (rest : List ℕ) (d : Denial) → Valid u → (f u p (x ∷ rest) 2048).result ≡ replied (denied d) → d.version ≡ version_part x

  -- one that denies with the request's version does not
  pub echo-excluded : EchoesVersion → Meets f → ⊥
  echo-excluded d h =
      let z : ◌≡◌ {A = ℕ} 1 2 = d fresh Normal 0x20 [] _ fresh-valid (ap (λ (o : Out). o.result) (h fresh Normal (0x20 ∷ []) 2048) ∙ denies-4) in
      omega (arith, z)

  -- whatever fits the area is given
  abbrev pub GivesWhatFits : Type 0
  GivesWhatFits = (u : State) (p : Port) (s : List ℕ) (area : ℕ) (a : Answer) → Valid u → (f u p s 2048).result ≡ replied a → length (answer_octets a) ≤ area
      → (f u p s area).result ≡ replied a

  -- one that gives 300 only where this answer does not fit does not
  pub fits-excluded : GivesWhatFits → Meets f → ⊥
  fits-excluded d h =
      let z : ◌≡◌ {A = ℕ} 0 16 =
      ap status_of
      (sym no_answer
      ∙ ap (λ (o : Out). o.result) (sym (h fresh Normal [] 2047))
      ∙ d fresh Normal [] 2047 (denial 1 16) fresh-valid (ap (λ (o : Out). o.result) (h fresh Normal [] 2048) ∙ denies-16) (omega (arith, denial-short))) in
      omega (arith, z)
