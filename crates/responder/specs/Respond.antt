-- What the unit replies to a request, and the unit that it leaves. Document 01, 'Denials and their order' and 'Lists': made of the codec's reading, the store's steps,
-- which ask the one admission, and the codec's answers. No slice in sight.
use Rattle.std.specs.Prelude.{ℕ, ◌*◌, Bool, not, ◌&&◌, ◌||◌, cond, List, [], ◌∷◌, ◌++◌, length, get_or, eqb, leb, ltb}
use Rattle.octets.specs.Number.{bare, version_part, fill_part}
use Rattle.octets.specs.Reading.{Told, message, refused, told}
use Rattle.octets.specs.Frame.{Message}
use Rattle.octets.specs.declared.Access.TheVariants.{Plain}
use Rattle.octets.specs.declared.Form.{Form}
use Rattle.octets.specs.declared.Form.TheVariants as f
use Rattle.octets.specs.declared.Port.{Port}
use Rattle.tags.specs.Entry.{Keyed, Held}
use Rattle.resources.specs.Resource.{Grant}
use Rattle.resources.specs.declared.Resource.{Resource}
use Rattle.resources.specs.declared.Room.{Room}
use Rattle.requests.specs.Command.{known, form_at}
use Rattle.requests.specs.Request.{request_read}
use Rattle.requests.specs.Request as q
use Rattle.answers.specs.Answer.{Answer, accepted, denied, answer, body_put}
use Rattle.answers.specs.Answer as b
use Rattle.admission.specs.Mode.{mode_code, code_spf, code_mode}
use Rattle.admission.specs.declared.Attributes.{Attributes}
use Rattle.admission.specs.declared.Mode.{Mode}
use Rattle.admission.specs.declared.Mode.TheVariants.{Both, ReadOnly, WriteOnly}
use Rattle.admission.specs.Denial.{Verdict, Allowed, Denied}
use Rattle.rows.specs.Keyed.{Maybe, nowhere, here}
use Rattle.store.specs.Model.{State, Tag, head_of}
use Rattle.store.specs.Steps.{Step, registered, write_step, free_step, allocate_step, read_step, Content, content, remainder}
use Rattle.store.specs.Steps as s

-- a reply, and the unit afterwards
pub record Done : Type 0 where
  pub reply : Answer
  pub unit : State

-- "The length is 0, except that status 4 carries one octet, the unit's own version octet"
abbrev pub supplement_of : ℕ → ℕ → List ℕ
supplement_of version number = cond (eqb number 4) (version * 16 ∷ []) []

-- "Denial: the unit's own version octet, 255, status, length of supplement, supplement." (table 3.2-41)
abbrev pub denial : ℕ → ℕ → Answer
denial version number = denied (record { version = version; status = number; supplement = supplement_of version number })

-- demand 1: "A refusal changes no tag"
abbrev pub deny : State → ℕ → Done
deny u number = record { reply = denial u.version number; unit = u }

-- an answer with the unit's own version, to a request that was plain or with passwords
abbrev pub grant : State → Form → b.Body → State → Done
grant u w body after = record { reply = accepted (answer u.version w body); unit = after }

-- "in the unit's answers they are zero": a tag with the six ignored bits zero
abbrev pub named : ℕ → Keyed
named x = (bare x, Plain)

-- ---- single commands

-- the verdict's answer: the body that was asked for, or its number
abbrev pub judged : State → Form → b.Body → Verdict → State → Done
judged u w body Allowed after = grant u w body after
judged u w body (Denied number) after = record { reply = denial u.version number; unit = after }

-- what a step of the store is answered with
abbrev pub stepped : State → Form → b.Body → Step → Done
stepped u w body step = judged u w body step.answer step.unit

-- an allocation: "a held length (0 after allocation)"; the initial value is read and dropped. The answer names the tag (tables 3.2-10, 3.2-26)
unfoldable pub allocate_done : State → Port → Form → Grant → Done
allocate_done u p w g =
    stepped u w (b.allocate (named g.tag)) (allocate_step u g.tag g.size (code_mode g.mode) (code_spf g.mode) p g.access)

-- a free; the answer names the tag (tables 3.2-12, 3.2-29)
unfoldable pub free_done : State → Port → Form → Keyed → Done
free_done u p w k = stepped u w (b.free (named k.0)) (free_step u k.0 p k.1)

-- a write; the answer names the tag (tables 3.2-17, 3.2-34)
unfoldable pub write_done : State → Port → Form → Held → Done
write_done u p w h = stepped u w (b.write (named h.0.0)) (write_step u h.0.0 h.1 p h.0.1)

-- what a read is answered with: the tag and its data, or the denial
abbrev pub shown : State → Form → ℕ → Content → Done
shown u w x (content xs) = grant u w (b.read (named x, xs)) u
shown u w x (s.denied number) = deny u number

-- a read: "A read gives the held length, not the area size" (tables 3.2-14, 3.2-31)
unfoldable pub read_done : State → Port → Form → Keyed → Done
read_done u p w k = shown u w k.0 (read_step u k.0 p k.1)

-- ---- resource information: "tells of registered tags only"

-- "one too great for its field is shown as the field's largest"
abbrev pub capped : ℕ → ℕ → ℕ
capped most n = cond (ltb most n) most n

-- "its remaining tags and octets", of non-volatile and of volatile memory the same; "Its largest receivable size is 2,048 octets and its bulk limit 16" (tables 3.2-5, 3.2-6)
abbrev pub room_of : State → Room
room_of u = record {
  largest = capped 4294967295 u.limits.message;
  tags = capped 65535 (remainder (head_of u)).tags;
  octets = capped 4294967295 (remainder (head_of u)).octets;
  volatile_tags = capped 65535 (remainder (head_of u)).tags;
  volatile_octets = capped 4294967295 (remainder (head_of u)).octets;
  entries = capped 65535 u.limits.list;
}

-- table 3.2-7: the data size is told as 0 for a tag that may not be read
abbrev pub size_told : Mode → ℕ → ℕ
size_told Both n = n
size_told ReadOnly n = n
size_told WriteOnly n = 0

-- table 3.2-7: what is told of a tag by its attributes and its held length
abbrev pub resource_as : Attributes → ℕ → Resource
resource_as about held = record {
  tag = about.tag;
  mode = mode_code about.mode about.spf;
  held = capped 4294967295 (size_told about.mode held);
  size = capped 4294967295 about.size;
}

-- what is told of a registered tag
abbrev pub resource_of : Tag → Resource
resource_of t = resource_as t.about (length t.held)

-- "tells of registered tags only"
abbrev pub told_of : Maybe Tag → List Resource → List Resource
told_of nowhere rs = rs
told_of (here t) rs = rs ++ resource_of t ∷ []

-- the entries in turn, behind what was told before
unfoldable pub all_told : State → List Resource → List Keyed → List Resource
all_told u rs [] = rs
all_told u rs (k ∷ ks) = all_told u (told_of (registered u k.0) rs) ks

-- resource information: what remains, and what is told of each tag (table 3.2-4)
unfoldable pub resources_done : State → List Keyed → Done
resources_done u ks = grant u f.Plain (b.resource_information (room_of u, all_told u [] ks)) u

-- ---- bulk commands: "Entries are taken in the order given, repeats included"; "an entry that a single command would deny is passed over and the next is taken"

-- "an entry is also passed over if with it the answer's body would exceed 2,042 octets, count included"
abbrev pub given : List Held → ℕ → Content → List Held
given hs x (content xs) = cond (leb (length (body_put (b.bulk_read (hs ++ (named x, xs) ∷ [])))) 2042) (hs ++ (named x, xs) ∷ []) hs
given hs x (s.denied number) = hs

-- the entries of a bulk read in turn, behind those given before
unfoldable pub all_reads : State → Port → List Held → List Keyed → List Held
all_reads u p hs [] = hs
all_reads u p hs (k ∷ ks) = all_reads u p (given hs k.0 (read_step u k.0 p k.1)) ks

-- a bulk read: "bulk read answers list memory data" (tables 3.2-20, 3.2-37)
unfoldable pub bulk_read_done : State → Port → Form → List Keyed → Done
bulk_read_done u p w ks = grant u w (b.bulk_read (all_reads u p [] ks)) u

-- the tags written so far, and the unit
pub record Writes : Type 0 where
  pub names : List Keyed
  pub unit : State

-- a write that was accepted adds its tag
abbrev pub noted : Verdict → ℕ → List Keyed → List Keyed
noted Allowed x ns = ns ++ named x ∷ []
noted (Denied number) x ns = ns

-- one entry of a bulk write: the step that a single write is, on the unit that the entries before it left
abbrev pub one_write : Port → Writes → Held → Writes
one_write p e h = record {
  names = noted (write_step e.unit h.0.0 h.1 p h.0.1).answer h.0.0 e.names;
  unit = (write_step e.unit h.0.0 h.1 p h.0.1).unit;
}

-- all entries in turn
unfoldable pub all_writes : Port → Writes → List Held → Writes
all_writes p e [] = e
all_writes p e (h ∷ hs) = all_writes p (one_write p e h) hs

-- "Bulk write answers list the tags written" (tables 3.2-23, 3.2-40)
abbrev pub listed : State → Form → Writes → Done
listed u w e = grant u w (b.bulk_write e.names) e.unit

-- a bulk write
unfoldable pub bulk_write_done : State → Port → Form → List Held → Done
bulk_write_done u p w hs = listed u w (all_writes p (record { names = []; unit = u }) hs)

-- ---- an operation

-- "Such a request is one of seven operations, six of them plain or with a password"
unfoldable pub act : State → Port → Form → q.Body → Done
act u p w (q.resource_information ks) = resources_done u ks
act u p w (q.allocate g) = allocate_done u p w g
act u p w (q.free k) = free_done u p w k
act u p w (q.read k) = read_done u p w k
act u p w (q.write h) = write_done u p w h
act u p w (q.bulk_read ks) = bulk_read_done u p w ks
act u p w (q.bulk_write hs) = bulk_write_done u p w hs

-- ---- the lines of the table

-- "Allocation's option covers 1, 2, 65 and 66"
abbrev pub needs_allocation : ℕ → Bool
needs_allocation kind = eqb kind 1 || eqb kind 2 || eqb kind 65 || eqb kind 66

-- "the password option covers 65 to 70"
abbrev pub needs_passwords : ℕ → Bool
needs_passwords kind = leb 65 kind && leb kind 70

-- neither "operation type not in the table" nor "its option not fitted"
unfoldable pub fitted : Bool → Bool → ℕ → Bool
fitted allocation passwords kind = known kind && (allocation || not (needs_allocation kind)) && (passwords || not (needs_passwords kind))

-- the lines before the body: a number, or none
pub data Line : Type 0 where
  number : ℕ → Line
  none : Line

-- the table's lines from "request empty or over 2,048 octets" to "operation type not in the table, or its option not fitted": "The first line that applies decides."
unfoldable pub first_lines : State → List ℕ → Line
first_lines u s =
    cond (eqb (length s) 0) (number 16)
    (cond (ltb u.limits.message (length s)) (number 16)
    (cond (not (eqb (version_part (get_or s 0 0)) u.version)) (number 4)
    (cond (not (eqb (fill_part (get_or s 0 0)) 0)) (number 16)
    (cond (not (eqb (get_or s 1 0) 1)) (number 16)
    (cond (ltb (length s) 3) (number 16)
    (cond (not (fitted u.allocation u.passwords (get_or s 2 0))) (number 12)
    none))))))

-- "more than 16 entries in a list, resource information included"
abbrev pub entries_of : q.Body → ℕ
entries_of (q.resource_information ks) = length ks
entries_of (q.allocate g) = 0
entries_of (q.free k) = 0
entries_of (q.read k) = 0
entries_of (q.write h) = 0
entries_of (q.bulk_read ks) = length ks
entries_of (q.bulk_write hs) = length hs

-- the lines of the body: the number of a request that does not decode, 7, and then the operation
abbrev pub served : State → Port → Told (Message q.Body) → Done
served u p (refused n fault) = deny u n
served u p (message m) = cond (ltb u.limits.list (entries_of m.body)) (deny u 7) (act u p (form_at m.kind) m.body)

-- a request whose first lines say so much
abbrev pub lined : State → Port → List ℕ → Line → Done
lined u p s (number n) = deny u n
lined u p s none = served u p (told (request_read s))

-- a request, by every line but that of 300
unfoldable pub handled : State → Port → List ℕ → Done
handled u p s = lined u p s (first_lines u s)

-- ---- the entry

-- no answer, with the number for the caller; or an answer
pub data Result : Type 0 where
  silent : ℕ → Result
  replied : Answer → Result

-- a result, and the unit afterwards
pub record Out : Type 0 where
  pub result : Result
  pub unit : State

-- a reply is an answer
abbrev pub sent : Done → Out
sent d = record { result = replied d.reply; unit = d.unit }

-- 300, "to the caller, no answer": "answer area shorter than 2,048 octets"
unfoldable pub respond : State → Port → List ℕ → ℕ → Out
respond u p s area = cond (ltb area u.limits.message) (record { result = silent 300; unit = u }) (sent (handled u p s))
