-- Every reply that the definition gives may be written, in at most 2,048 octets: first the answers of each kind, then what bulk lists and resource information gather
-- entry by entry, then the operations and the whole. Relies on the codec's laws of what fits, and on a unit in order: an area has at most 1,024 octets, a list 16 entries.
use Prim.Native.Nat.{ℕ, suc, ◌+◌, ◌*◌, ◌^◌, ◌<◌, ◌≤◌}
use mathlib.Core.Path.{◌≡◌, refl, sym}
use mathlib.Core.Bool.{Bool, true, false, ◌&&◌, cond}
use mathlib.Core.List.{List, [], ◌∷◌, ◌++◌}
use native.Mathlib.Omega.{arith}
use Rattle.std.proofs.Common.{rules}
use Rattle.std.proofs.lemmas.Bool.Decides.{nat_tests}
use native.Mathlib.Nat.{zero-mul, suc-mul}
use lib.ListN.{length, length-append}
use lib.Dec.{eqb, leb, ltb}
use borrow.Author.Tests.{le-leb, lt-ltb, leb-true, ltb-true, ltb-false}
use Rattle.octets.specs.Length.{encode_length}
use Rattle.octets.specs.Number.{bare}
use Rattle.octets.specs.Reading.{Read, bad, ok, message, told, Octets}
use Rattle.octets.specs.Layout.{Layout, put_all, fit_all, list_of}
use Rattle.octets.specs.Frame.{Message, opening, openable, writable}
use Rattle.octets.specs.declared.Access.TheVariants.{Plain}
use Rattle.octets.specs.declared.Fault.TheVariants.{Other}
use Rattle.octets.specs.declared.Form.{Form}
use Rattle.octets.specs.declared.Form.TheVariants as f
use Rattle.octets.specs.declared.Port.{Port}
use Rattle.octets.proofs.Places.{both, both-are, bad-ok}
use Rattle.octets.proofs.Lengths.{encode-some}
use Rattle.tags.specs.Entry.{Keyed, Held, lock, key, memory}
use Rattle.tags.proofs.Entries.{length-key, length-memory, key_fits, memory-fits}
use Rattle.resources.specs.Resource.{Grant, mode_known, allocation, room, resource}
use Rattle.resources.specs.declared.Resource.{Resource}
use Rattle.resources.specs.declared.Room.{Room}
use Rattle.resources.proofs.Bodies.{length-room, length-resource, room_fits, resource-fits}
use Rattle.requests.specs.Command.{known, command_number, command_at, form_at}
use Rattle.requests.specs.Request.{request_body, request_read}
use Rattle.requests.specs.Request as q
use Rattle.requests.proofs.Theorems.{request-read-written}
use Rattle.answers.specs.Answer.{Answer, accepted, denied, answer, answer_body, answer_kind, answer_octets, decode_answer, answer_read, answer_writable, command_of, body_put, body_fits}
use Rattle.answers.specs.Answer as b
use Rattle.answers.proofs.Denials.{denial-fit}
use Rattle.answers.proofs.Theorems.{answer-written-reads}
use Rattle.admission.specs.Mode.{mode_code, code_mode, code_spf}
use Rattle.admission.specs.declared.Mode.{Mode}
use Rattle.admission.specs.Denial.{Verdict, Allowed, Denied}
use Rattle.rows.specs.Keyed.{Maybe, nowhere, here}
use Rattle.rows.proofs.Keys
use Rattle.store.specs.Model.{State, Tag, tag_id, head_of, Valid}
use Rattle.store.proofs.Valid.{none}
use Rattle.store.specs.Steps.{Step, registered, read_step, write_step, free_step, allocate_step, remainder, Content, content}
use Rattle.store.specs.Steps as s
use Rattle.responder.specs.Demands.{carried_of}
use Rattle.responder.specs.Respond.{Done, supplement_of, denial, deny, named, judged, stepped, allocate_done, free_done, write_done, shown, read_done, capped, room_of, size_told, resource_of, told_of, all_told, resources_done, given, all_reads, bulk_read_done, Writes, noted, one_write, all_writes, bulk_write_done, act, Line, number, first_lines, entries_of, served, lined, handled, silent, replied, sent, respond}
use Rattle.responder.specs.Respond as r
use Rattle.responder.proofs.Statuses.{among, statuses, status-small, either, Listed, allocate-listed, free-listed, write-listed, Given, read-given, early-status, ListedLine, lines-listed}

-- ---- messages

-- a body of at most 2,042 octets has room in a message
pub openable-short : (version kind n : ℕ) → version ≤ 15 → n ≤ 2042 → openable version kind n ≡ true
unfolding openable opening
openable-short version kind n v h =
    let e : 4 + length (encode_length n) + n ≤ 2048 = omega (arith, encode-some n) in
    both-are _ _ (lt-ltb version 16 (omega arith)) (le-leb (length (opening version kind n) + n) 2048 (omega (arith, e)))

-- the forms that an answer has: resource information is plain, all others are plain or with a password
abbrev pub formed : b.Body → Form → Bool
formed (b.resource_information x) f.Plain = true
formed (b.resource_information x) f.Password = false
formed (b.allocate k) w = true
formed (b.free k) w = true
formed (b.read h) w = true
formed (b.write k) w = true
formed (b.bulk_read hs) w = true
formed (b.bulk_write ks) w = true

-- a body that fits is one of its answer's type
kind_fits : (x : b.Body) (w : Form) → formed x w ≡ true → body_fits x ≡ true → (answer_body (answer_kind (command_of x) w)).fits x ≡ true
unfolding answer_body known
kind_fits x w g h = search rules

-- every answer's type writes a body alike
kind-put : (kind : ℕ) (x : b.Body) → (answer_body kind).put x ≡ body_put x
unfolding answer_body
kind-put kind x = refl

-- an answer whose body fits its fields, in at most 2,042 octets, may be written
pub accepted-writable : (version : ℕ) (w : Form) (x : b.Body) → version ≤ 15 → formed x w ≡ true → body_fits x ≡ true → length (body_put x) ≤ 2042
    → answer_writable (accepted (answer version w x)) ≡ true
unfolding writable
accepted-writable version w x v g h n =
    let k = answer_kind (command_of x) w in
    let e : openable version k (length ((answer_body k).put x)) ≡ true = rw (kind-put k x) (openable-short version k (length (body_put x)) v n) in
    both-are _ _ e (kind_fits x w g h)

-- what may be written takes at most 2,048 octets
pub writable-short : (a : Answer) → answer_writable a ≡ true → length (answer_octets a) ≤ 2048
unfolding answer_read
writable-short a h = go (ltb 2048 (length (answer_octets a))) refl (answer-written-reads a h)
  where
    go : (t : Bool) → ltb 2048 (length (answer_octets a)) ≡ t → cond t (bad Other) (decode_answer (answer_octets a)) ≡ ok a [] → length (answer_octets a) ≤ 2048
    go true e q = absurd (bad-ok q)
    go false e q = ltb-false _ _ e

-- ---- denials

-- a supplement is one octet or none
supplement-short : (version n : ℕ) → length (supplement_of version n) ≤ 127
supplement-short version n = either (λ l. length l ≤ 127) (eqb n 4) _ _ (omega arith) (omega arith)

-- a denial may be written
pub denial-writable : (version n : ℕ) → version ≤ 15 → n < 256 → answer_writable (denial version n) ≡ true
denial-writable version n v h = denial-fit (record { version = version; status = n; supplement = supplement_of version n }) v h (supplement-short version n)

-- ---- answers that name one tag

-- a tag with the six bits zero is no greater
pub bare-low : (x : ℕ) → x < 2 ^ 64 → bare x < 2 ^ 64
unfolding bare
bare-low x h = omega arith

-- so it fits its field
pub named-fits : (x : ℕ) → x < 2 ^ 64 → (key f.Plain).fits (named x) ≡ true
named-fits x h = key_fits f.Plain (bare x) Plain (bare-low x h) refl

-- with data of at most 1,024 octets too
pub held_fits : (x : ℕ) (xs : List ℕ) → x < 2 ^ 64 → length xs ≤ 1024 → (memory f.Plain).fits (named x, xs) ≡ true
held_fits x xs h n = memory-fits f.Plain (named x) xs (named-fits x h) (omega arith)

module _ (version : ℕ) (w : Form) (x : ℕ) (v : version ≤ 15) (h : x < 2 ^ 64) where
  -- eight octets
  name-short : length ((key f.Plain).put (named x)) ≤ 2042
  name-short = rw (length-key f.Plain (named x)) (omega arith)

  -- the answer to an allocation
  pub allocate-writable : answer_writable (accepted (answer version w (b.allocate (named x)))) ≡ true
  allocate-writable = accepted-writable version w (b.allocate (named x)) v refl (named-fits x h) name-short

  -- to a free
  pub free-writable : answer_writable (accepted (answer version w (b.free (named x)))) ≡ true
  free-writable = accepted-writable version w (b.free (named x)) v refl (named-fits x h) name-short

  -- to a write
  pub write-writable : answer_writable (accepted (answer version w (b.write (named x)))) ≡ true
  write-writable = accepted-writable version w (b.write (named x)) v refl (named-fits x h) name-short

  -- to a read
  pub read-writable : (xs : List ℕ) → length xs ≤ 1024 → answer_writable (accepted (answer version w (b.read (named x, xs)))) ≡ true
  read-writable xs n =
      accepted-writable version w (b.read (named x, xs)) v refl (held_fits x xs h n)
      (rw (length-memory f.Plain (named x, xs)) (omega (arith, encode-some (length xs))))

-- ---- lists

-- at most n entries, each within its fields
pub record Fits {A : Type 0} (L : Layout A) (n : ℕ) (es : List A) : Type 0 where
  pub fit : fit_all L es ≡ true
  pub few : length es ≤ n

module _ {A : Type 0} (L : Layout A) where
  -- one entry more that fits
  fit-more : (es : List A) (a : A) → fit_all L es ≡ true → L.fits a ≡ true → fit_all L (es ++ a ∷ []) ≡ true
  fit-more [] a h k = rw k
  fit-more (e ∷ es) a h k = let c = both (L.fits e) (fit_all L es) h in both-are _ _ c.0 (fit-more es a c.1 k)

  -- none
  pub fits-none : Fits L 0 []
  fits-none = record { fit = refl; few = omega arith }

  -- one entry more
  pub fits_more : (n : ℕ) (es : List A) (a : A) → Fits L n es → L.fits a ≡ true → Fits L (suc n) (es ++ a ∷ [])
  fits_more n es a h k = record { fit = fit-more es a h.fit k; few = omega (arith, h.few, length-append es (a ∷ [])) }

  -- an entry passed over
  pub fits-still : (n : ℕ) (es : List A) → Fits L n es → Fits L (suc n) es
  fits-still n es h = record { fit = h.fit; few = omega (arith, h.few) }

  -- sixteen are few enough for a list
  list-fits : (es : List A) → Fits L 16 es → (list_of L).fits es ≡ true
  list-fits es h = both-are _ _ (lt-ltb (length es) 16384 (omega (arith, h.few))) h.fit

  -- entries that all take k octets
  put-each : (k : ℕ) → ((a : A) → length (L.put a) ≡ k) → (es : List A) → length (put_all L es) ≡ length es * k
  put-each k h [] = sym (zero-mul k)
  put-each k h (e ∷ es) = rw (length-append (L.put e) (put_all L es), h e, put-each k h es) (omega (arith, suc-mul (length es) k))

  -- so a list of them
  list_length : (k : ℕ) → ((a : A) → length (L.put a) ≡ k) → (es : List A) → length ((list_of L).put es) ≡ length (encode_length (length es)) + length es * k
  list_length k h es = rw (length-append (encode_length (length es)) (put_all L es), put-each k h es)

-- ---- the tags of a request

-- each is a number of eight octets
unfoldable pub Low : List Keyed → Type 0
Low [] = Unit {0}
Low (k ∷ ks) = (k.0 < 2 ^ 64) × Low ks

-- a tag that fits its field
key-low : (w : Form) (k : Keyed) → (key w).fits k ≡ true → k.0 < 2 ^ 64
key-low w k h = ltb-true k.0 (256 ^ 8) (both (ltb k.0 (256 ^ 8)) ((lock w).fits k.1) h).0

-- tags that fit their fields
pub keys-low : (w : Form) (ks : List Keyed) → fit_all (key w) ks ≡ true → Low ks
unfolding Low
keys-low w [] h = tt
keys-low w (k ∷ ks) h = let c = both ((key w).fits k) (fit_all (key w) ks) h in (key-low w k c.0, keys-low w ks c.1)

-- the tag of an allocation that fits its fields
grant-low : (w : Form) (g : Grant) → (allocation w).fits g ≡ true → g.tag < 2 ^ 64
grant-low w g h =
    ltb-true g.tag (256 ^ 8)
    (both (ltb g.tag (256 ^ 8)) ((ltb g.mode 256 && mode_known g.mode) && (ltb g.size (256 ^ 4) && ((lock w).fits g.access && ltb (length g.initial) 16384))) h).0

-- a tag with data that fits its fields
memory-low : (w : Form) (h : Held) → (memory w).fits h ≡ true → h.0.0 < 2 ^ 64
memory-low w h e = key-low w h.0 (both ((key w).fits h.0) (ltb (length h.1) 16384) e).0

-- tags with data that fit their fields
pub helds-low : (w : Form) (hs : List Held) → fit_all (memory w) hs ≡ true → Low (carried_of hs)
unfolding Low
helds-low w [] e = tt
helds-low w (h ∷ hs) e = let c = both ((memory w).fits h) (fit_all (memory w) hs) e in (memory-low w h c.0, helds-low w hs c.1)

-- ---- bulk write

-- sixteen names may be written
pub bulk-write-writable : (version : ℕ) (w : Form) (ns : List Keyed) → version ≤ 15 → Fits (key f.Plain) 16 ns
    → answer_writable (accepted (answer version w (b.bulk_write ns))) ≡ true
bulk-write-writable version w ns v h =
    accepted-writable version w (b.bulk_write ns) v refl (list-fits (key f.Plain) ns h)
    (rw (list_length (key f.Plain) 8 (length-key f.Plain) ns) (omega (arith, h.few, encode-some (length ns))))

-- an entry adds its name or none
pub noted-fits : (v : Verdict) (x n : ℕ) (ns : List Keyed) → x < 2 ^ 64 → Fits (key f.Plain) n ns → Fits (key f.Plain) (suc n) (noted v x ns)
noted-fits Allowed x n ns h k = fits_more (key f.Plain) n ns (named x) k (named-fits x h)
noted-fits (Denied d) x n ns h k = fits-still (key f.Plain) n ns k

-- a list adds at most as many names as it has entries
pub writes-fit : (p : Port) (e : Writes) (n : ℕ) (hs : List Held) → Low (carried_of hs) → Fits (key f.Plain) n e.names
    → Fits (key f.Plain) (n + length hs) (all_writes p e hs).names
unfolding Low all_writes
writes-fit p e n [] l k = record { fit = k.fit; few = omega (arith, k.few) }
writes-fit p e n (h ∷ hs) l k =
    let c : n + suc (length hs) ≡ suc n + length hs = omega arith in
    rw c (writes-fit p (one_write p e h) (suc n) hs l.1 (noted-fits (write_step e.unit h.0.0 h.1 p h.0.1).answer h.0.0 n e.names l.0 k))

-- ---- bulk read

-- each data lies within an area
unfoldable pub Small : ℕ → List Held → Type 0
Small area [] = Unit {0}
Small area (h ∷ hs) = (length h.1 ≤ area) × Small area hs

-- with one data more
small-more : (area : ℕ) (hs : List Held) (h : Held) → Small area hs → length h.1 ≤ area → Small area (hs ++ h ∷ [])
unfolding Small
small-more area [] h k e = (e, tt)
small-more area (i ∷ hs) h k e = (k.0, small-more area hs h k.1 e)

-- what a bulk read has gathered after n entries: its body never exceeds 2,042 octets
pub record Gathered (area n : ℕ) (hs : List Held) : Type 0 where
  pub entries : Fits (memory f.Plain) n hs
  pub small : Small area hs
  pub short : length (body_put (b.bulk_read hs)) ≤ 2042

-- nothing at first
pub gathered_none : (area : ℕ) → Gathered area 0 []
unfolding Small encode_length
gathered_none area = record { entries = fits-none (memory f.Plain); small = tt; short = omega arith }

-- what sixteen entries gathered may be written
pub bulk-read-writable : (version : ℕ) (w : Form) (area : ℕ) (hs : List Held) → version ≤ 15 → Gathered area 16 hs
    → answer_writable (accepted (answer version w (b.bulk_read hs))) ≡ true
bulk-read-writable version w area hs v h = accepted-writable version w (b.bulk_read hs) v refl (list-fits (memory f.Plain) hs h.entries) h.short

-- an entry is gathered or passed over
pub given-gathered : (u : State) (n : ℕ) (hs : List Held) (x : ℕ) (c : Content) → u.limits.area ≤ 1024 → x < 2 ^ 64 → Given u c → Gathered u.limits.area n hs
    → Gathered u.limits.area (suc n) (given hs x c)
given-gathered u n hs x (content xs) a h g k = go (leb (length (body_put (b.bulk_read (hs ++ (named x, xs) ∷ [])))) 2042) refl
  where
    go : (t : Bool) → leb (length (body_put (b.bulk_read (hs ++ (named x, xs) ∷ [])))) 2042 ≡ t → Gathered u.limits.area (suc n) (cond t (hs ++ (named x, xs) ∷ []) hs)
    go true e = record {
      entries = fits_more (memory f.Plain) n hs (named x, xs) k.entries (held_fits x xs h (omega arith));
      small = small-more u.limits.area hs (named x, xs) k.small g;
      short = leb-true _ _ e;
    }
    go false e = record { entries = fits-still (memory f.Plain) n hs k.entries; small = k.small; short = k.short }
given-gathered u n hs x (s.denied d) a h g k = record { entries = fits-still (memory f.Plain) n hs k.entries; small = k.small; short = k.short }

-- a list gathers at most as many as it has entries
pub reads-gathered : (u : State) (p : Port) (n : ℕ) (hs : List Held) (ks : List Keyed) → Valid u → Low ks → Gathered u.limits.area n hs
    → Gathered u.limits.area (n + length ks) (all_reads u p hs ks)
unfolding Low all_reads
reads-gathered u p n hs [] o l k = record { entries = record { fit = k.entries.fit; few = omega (arith, k.entries.few) }; small = k.small; short = k.short }
reads-gathered u p n hs (i ∷ ks) o l k =
    let c : n + suc (length ks) ≡ suc n + length ks = omega arith in
    let r = read_step u i.0 p i.1 in
    rw c (reads-gathered u p (suc n) (given hs i.0 r) ks o l.1 (given-gathered u n hs i.0 r o.shared.area l.0 (read-given u i.0 p i.1 o) k))

-- ---- resource information

-- sixteen tags may be told of
pub resources-writable : (version : ℕ) (x : Room) (rs : List Resource) → version ≤ 15 → room.fits x ≡ true → Fits resource 16 rs
    → answer_writable (accepted (answer version f.Plain (b.resource_information (x, rs)))) ≡ true
resources-writable version x rs v h k =
    accepted-writable version f.Plain (b.resource_information (x, rs)) v refl (both-are _ _ h (list-fits resource rs k))
    (rw (length-append (room.put x) ((list_of resource).put rs), length-room x, list_length resource 17 length-resource rs) (omega (arith, k.few, encode-some (length rs))))

-- a number that is too great is shown as the greatest
pub capped-low : (most n : ℕ) → capped most n ≤ most
capped-low most n = grind (arith, nat_tests)

-- so what remains fits its fields
pub room-of-fits : (u : State) → room.fits (room_of u) ≡ true
room-of-fits u =
    let l = remainder (head_of u) in
    let tags : capped 65535 l.tags < 256 ^ 2 = omega (arith, capped-low 65535 l.tags) in
    let octets : capped 4294967295 l.octets < 256 ^ 4 = omega (arith, capped-low 4294967295 l.octets) in
    room_fits (room_of u)
    (omega (arith, capped-low 4294967295 u.limits.message)) tags octets tags octets
    (omega (arith, capped-low 65535 u.limits.list))

-- every mode has a code of the tables
pub mode-code : (m : Mode) (t : Bool) → (mode_code m t < 256) × (mode_known (mode_code m t) ≡ true)
unfolding mode_known
mode-code m t = search rules

-- what is told of a tag fits its fields
pub resource-of-fits : (t : Tag) → tag_id t < 2 ^ 64 → resource.fits (resource_of t) ≡ true
resource-of-fits t h =
    let m = mode-code t.about.mode t.about.spf in
    resource-fits (resource_of t) h m.0 m.1 (omega (arith, capped-low 4294967295 (size_told t.about.mode (length t.held)))) (omega (arith, capped-low 4294967295 t.about.size))

-- who is found has the tag that was asked for
pub registered-low : (u : State) (x : ℕ) (t : Tag) → x < 2 ^ 64 → registered u x ≡ here t → tag_id t < 2 ^ 64
unfolding registered
registered-low u x t h e = rw (Keys.stands tag_id none (bare x) u.tags t e).has (bare-low x h)

-- an entry is told of if it is registered
pub told-fits : (u : State) (x n : ℕ) (rs : List Resource) → x < 2 ^ 64 → Fits resource n rs → Fits resource (suc n) (told_of (registered u x) rs)
told-fits u x n rs h k = go (registered u x) refl
  where
    go : (m : Maybe Tag) → registered u x ≡ m → Fits resource (suc n) (told_of m rs)
    go nowhere e = fits-still resource n rs k
    go (here t) e = fits_more resource n rs (resource_of t) k (resource-of-fits t (registered-low u x t h e))

-- of a list at most as many as it has entries
pub all-told-fit : (u : State) (n : ℕ) (rs : List Resource) (ks : List Keyed) → Low ks → Fits resource n rs → Fits resource (n + length ks) (all_told u rs ks)
unfolding Low all_told
all-told-fit u n rs [] l k = record { fit = k.fit; few = omega (arith, k.few) }
all-told-fit u n rs (i ∷ ks) l k =
    let c : n + suc (length ks) ≡ suc n + length ks = omega arith in
    rw c (all-told-fit u (suc n) (told_of (registered u i.0) rs) ks l.1 (told-fits u i.0 n rs l.0 k))

-- ---- the operations

-- the reply may be written
abbrev pub Fine : Done → Type 0
Fine d = answer_writable d.reply ≡ true

-- a denial by one of the statuses
deny-fine : (u : State) (n : ℕ) → Valid u → among n statuses ≡ true → Fine (deny u n)
deny-fine u n o e = denial-writable u.version n o.low (status-small n e)

-- what a verdict is answered with
judged-fine : (u : State) (w : Form) (x : b.Body) (v : Verdict) (after : State) → Valid u → Listed v → answer_writable (accepted (answer u.version w x)) ≡ true
    → Fine (judged u w x v after)
judged-fine u w x Allowed after o l h = h
judged-fine u w x (Denied n) after o l h = deny-fine u n o l

-- what a step of the store is answered with
pub stepped-fine : (u : State) (w : Form) (x : b.Body) (t : Step) → Valid u → Listed t.answer → answer_writable (accepted (answer u.version w x)) ≡ true → Fine (stepped u w x t)
stepped-fine u w x t o l h = judged-fine u w x t.answer t.unit o l h

module _ (u : State) (p : Port) (w : Form) (o : Valid u) where
  -- an allocation
  pub allocate-fine : (g : Grant) → g.tag < 2 ^ 64 → Fine (allocate_done u p w g)
  unfolding allocate_done
  allocate-fine g h =
      let t = allocate_step u g.tag g.size (code_mode g.mode) (code_spf g.mode) p g.access in
      stepped-fine u w (b.allocate (named g.tag)) t o (allocate-listed u g.tag p g.access g.size (code_mode g.mode) (code_spf g.mode))
      (allocate-writable u.version w g.tag o.low h)

  -- a free
  pub free-fine : (k : Keyed) → k.0 < 2 ^ 64 → Fine (free_done u p w k)
  unfolding free_done
  free-fine k h =
      stepped-fine u w (b.free (named k.0)) (free_step u k.0 p k.1) o (free-listed u k.0 p k.1) (free-writable u.version w k.0 o.low h)

  -- a write
  pub write-fine : (i : Held) → i.0.0 < 2 ^ 64 → Fine (write_done u p w i)
  unfolding write_done
  write-fine i h =
      stepped-fine u w (b.write (named i.0.0)) (write_step u i.0.0 i.1 p i.0.1) o (write-listed u i.0.0 p i.0.1 i.1)
      (write-writable u.version w i.0.0 o.low h)

  -- a read
  pub read-fine : (k : Keyed) → k.0 < 2 ^ 64 → Fine (read_done u p w k)
  unfolding read_done
  read-fine k h = go (read_step u k.0 p k.1) (read-given u k.0 p k.1 o)
    where
      go : (c : Content) → Given u c → Fine (shown u w k.0 c)
      go (content xs) g = read-writable u.version w k.0 o.low h xs (omega (arith, o.shared.area))
      go (s.denied n) g = deny-fine u n o g

  -- resource information
  pub resources-fine : (ks : List Keyed) → Low ks → length ks ≤ 16 → Fine (resources_done u ks)
  unfolding resources_done
  resources-fine ks l n =
      let h = all-told-fit u 0 [] ks l (fits-none resource) in
      resources-writable u.version (room_of u) (all_told u [] ks) o.low (room-of-fits u) (record { fit = h.fit; few = omega (arith, h.few) })

  -- a bulk read
  pub bulk-read-fine : (ks : List Keyed) → Low ks → length ks ≤ 16 → Fine (bulk_read_done u p w ks)
  unfolding bulk_read_done
  bulk-read-fine ks l n =
      let h = reads-gathered u p 0 [] ks o l (gathered_none u.limits.area) in
      bulk-read-writable u.version w u.limits.area (all_reads u p [] ks) o.low (record {
        entries = record { fit = h.entries.fit; few = omega (arith, h.entries.few) };
        small = h.small;
        short = h.short;
      })

  -- a bulk write
  pub bulk-write-fine : (hs : List Held) → Low (carried_of hs) → length hs ≤ 16 → Fine (bulk_write_done u p w hs)
  unfolding bulk_write_done
  bulk-write-fine hs l n =
      let h = writes-fit p (record { names = []; unit = u }) 0 hs l (fits-none (key f.Plain)) in
      bulk-write-writable u.version w (all_writes p (record { names = []; unit = u }) hs).names o.low (record { fit = h.fit; few = omega (arith, h.few) })

-- a list that fits its fields
list-fit : {A : Type 0} (L : Layout A) (es : List A) → (list_of L).fits es ≡ true → fit_all L es ≡ true
list-fit L es h = (both (ltb (length es) 16384) (fit_all L es) h).1

-- any operation whose request fits its fields, with at most 16 entries
pub act-fine : (u : State) (p : Port) (w v : Form) (x : q.Body) → Valid u → q.body_fits v x ≡ true → entries_of x ≤ 16 → Fine (act u p w x)
unfolding act
act-fine u p w v (q.resource_information ks) o h n = resources-fine u p w o ks (keys-low v ks (list-fit (key v) ks h)) n
act-fine u p w v (q.allocate g) o h n = allocate-fine u p w o g (grant-low v g h)
act-fine u p w v (q.free k) o h n = free-fine u p w o k (key-low v k h)
act-fine u p w v (q.read k) o h n = read-fine u p w o k (key-low v k h)
act-fine u p w v (q.write i) o h n = write-fine u p w o i (memory-low v i h)
act-fine u p w v (q.bulk_read ks) o h n = bulk-read-fine u p w o ks (keys-low v ks (list-fit (key v) ks h)) n
act-fine u p w v (q.bulk_write hs) o h n = bulk-write-fine u p w o hs (helds-low v hs (list-fit (memory v) hs h)) n

-- ---- the whole

-- a request that decodes fits its fields
pub request-fits : (s : List ℕ) (m : Message q.Body) → Octets s → told (request_read s) ≡ message m → q.body_fits (form_at m.kind) m.body ≡ true
unfolding writable request_body
request-fits s m o e =
    let k = request_body m.kind in
    let x = both (openable m.version m.kind (length (k.put m.body))) (k.fits m.body) (request-read-written s m o e).1 in
    let y = both (known m.kind) (eqb (command_number (q.command_of m.body)) (command_number (command_at m.kind)) && q.body_fits (form_at m.kind) m.body) x.1 in
    (both (eqb (command_number (q.command_of m.body)) (command_number (command_at m.kind))) (q.body_fits (form_at m.kind) m.body) y.1).1

-- a request that decodes, or 16
pub served-fine : (u : State) (p : Port) (r : Read (Message q.Body)) → Valid u → ((m : Message q.Body) → told r ≡ message m → q.body_fits (form_at m.kind) m.body ≡ true)
    → Fine (served u p (told r))
served-fine u p (bad t) o h = deny-fine u 16 o refl
served-fine u p (ok m r) o h = go (ltb u.limits.list (entries_of m.body)) refl
  where
    go : (t : Bool) → ltb u.limits.list (entries_of m.body) ≡ t → Fine (cond t (deny u 7) (act u p (form_at m.kind) m.body))
    go true e = deny-fine u 7 o refl
    go false e = act-fine u p (form_at m.kind) (form_at m.kind) m.body o (h m refl) (omega (arith, ltb-false u.limits.list (entries_of m.body) e, o.shared.list))

-- whatever the first lines say
pub handled-fine : (u : State) (p : Port) (s : List ℕ) → Valid u → Octets s → Fine (handled u p s)
unfolding handled
handled-fine u p s o t = go (first_lines u s) (lines-listed u s)
  where
    go : (l : Line) → ListedLine l → Fine (lined u p s l)
    go (number n) h = deny-fine u n o (early-status n h)
    go r.none h = served-fine u p (request_read s) o (λ m. request-fits s m t)

-- what is replied is what the request was answered with
pub replied-is : (u : State) (p : Port) (s : List ℕ) (area : ℕ) (a : Answer) → (respond u p s area).result ≡ replied a → (handled u p s).reply ≡ a
unfolding respond
replied-is u p s area a e = go (ltb area u.limits.message) e
  where
    go : (t : Bool) → (cond t (record { result = silent 300; unit = u }) (sent (handled u p s))).result ≡ replied a → (handled u p s).reply ≡ a
    go true q = cc
    go false q = cc

-- every reply may be written
pub respond-writable : (u : State) (p : Port) (s : List ℕ) (area : ℕ) (a : Answer) → Valid u → Octets s → (respond u p s area).result ≡ replied a → answer_writable a ≡ true
respond-writable u p s area a o t e = rw (← replied-is u p s area a e) (handled-fine u p s o t)

-- in at most 2,048 octets
pub respond-short : (u : State) (p : Port) (s : List ℕ) (area : ℕ) (a : Answer) → Valid u → Octets s → (respond u p s area).result ≡ replied a → length (answer_octets a) ≤ 2048
respond-short u p s area a o t e = writable-short a (respond-writable u p s area a o t e)
