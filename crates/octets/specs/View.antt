-- What the answers of this crate's readers say of the octets s: a position stands for the octets from there on, a span for those within it.
-- And where the positions lie. Together they leave one answer (proofs/Unique).
use Rattle.std.specs.Prelude.{ℕ, ◌+◌, ◌^◌, ◌<◌, ◌≤◌, ◌≡◌, List, length, take, drop, cond, ltb, Result, Ok, Err}
use Rattle.octets.specs.Reading.{Read, bad, ok, forget}
use Rattle.octets.specs.Length.{decode_length}
use Rattle.octets.specs.Number.{decode_number, width_of}
use Rattle.octets.specs.Layout.{Layout, data', entries, taken, list_of}
use Rattle.octets.specs.Frame.{heading, enclosed}
use Rattle.octets.specs.declared.Fault.{Fault}
use Rattle.octets.specs.declared.Fault.TheVariants.{Other}
use Rattle.octets.specs.declared.Width.{Width}
use Rattle.octets.specs.declared.Taken.{Taken}
use Rattle.octets.specs.declared.Span.{Span}
use Rattle.octets.specs.declared.Entries.{Entries}
use Rattle.octets.specs.declared.Heading.{Heading}

-- what reading at a place gives: a value and where the next field starts, or a fault
abbrev pub Reading : Type 0 → Type 0
Reading V = Result (Taken V) Fault

module _ {V A : Type 0} where
  -- the value as it is shown, and the octets from the next place on; or the fault
  abbrev pub read_in : (V → A) → List ℕ → Reading V → Read A
  read_in shown s (Ok t) = ok (shown t.value) (drop t.next s)
  read_in shown s (Err f) = bad f

-- a value that was read, if nothing stands behind it
abbrev pub to_end : {V : Type 0} → List ℕ → Taken V → Result V Fault
to_end s t = cond (ltb t.next (length s)) (Err Other) (Ok t.value)

-- what holds of a value that was read and of its next place; a fault has neither
abbrev pub IfTaken : {V : Type 0} → (Taken V → Type 0) → Reading V → Type 0
IfTaken P (Ok t) = P t
IfTaken P (Err f) = Unit {0}

-- what a reader answers of the octets s: what is read there, as the value is shown, and where value and next place lie
pub record Reads {V A : Type 0} (p : Read A) (shown : V → A) (Place : Taken V → Type 0) (s : List ℕ) (r : Reading V) : Type 0 where
  pub says : read_in shown s r ≡ p
  pub place : IfTaken Place r

-- the octets within a span: "the data of a write is shown as the part of the request where it stands"
abbrev pub within : List ℕ → Span → List ℕ
within s p = take p.len (drop p.start s)

-- what reading a length or a count at a place answers: the next place lies behind it and within s; no form holds more than 16,383
abbrev pub LengthAt : List ℕ → ℕ → Reading ℕ → Type 0
LengthAt s at = Reads (decode_length (drop at s)) (λ n. n) (λ t. (at < t.next) × (t.next ≤ length s) × (t.value < 16384)) s

-- what reading a number at a place answers: the next place lies within s, and the number is one of its field
abbrev pub NumberAt : List ℕ → ℕ → Width → Reading ℕ → Type 0
NumberAt s at w = Reads (decode_number (width_of w) (drop at s)) (λ x. x) (λ t. (t.next ≤ length s) × (t.value < 256 ^ width_of w)) s

-- what reading data at a place answers, a length and as many octets: the next place is the span's end, and lies within s
abbrev pub DataAt : List ℕ → ℕ → Reading Span → Type 0
DataAt s at = Reads (data'.get (drop at s)) (within s) (λ t. (t.value.start + t.value.len ≡ t.next) × (t.next ≤ length s)) s

-- version and operation type, and the octets behind these three
abbrev pub heading_in : List ℕ → Result Heading Fault → Read (ℕ × ℕ)
heading_in s (Ok h) = ok (h.version, h.kind) (drop 3 s)
heading_in s (Err f) = bad f

-- there are three octets, and the version is 0 to 15
abbrev pub HeadingPlace : List ℕ → Result Heading Fault → Type 0
HeadingPlace s (Ok h) = (3 ≤ length s) × (h.version < 16)
HeadingPlace s (Err f) = Unit {0}

-- what reading the front of a message answers
pub record HeadingOf (s : List ℕ) (r : Result Heading Fault) : Type 0 where
  pub says : heading_in s r ≡ heading s
  pub place : HeadingPlace s r

-- the body's octets; or the fault of its length
abbrev pub enclosed_in : List ℕ → Result ℕ Fault → Read (Unit {0})
enclosed_in s (Ok at) = ok tt (drop at s)
enclosed_in s (Err f) = bad f

-- the body starts within s, or at its end
abbrev pub EnclosedPlace : List ℕ → Result ℕ Fault → Type 0
EnclosedPlace s (Ok at) = at ≤ length s
EnclosedPlace s (Err f) = Unit {0}

-- what reading the octets between operation type and body answers
pub record EnclosedOf (s : List ℕ) (r : Result ℕ Fault) : Type 0 where
  pub says : enclosed_in s r ≡ enclosed (drop 3 s)
  pub place : EnclosedPlace s r

-- ---- a list, over the layout of its entries

module _ {A : Type 0} (L : Layout A) where
  -- the entries from a place on
  abbrev pub entries_in : List ℕ → Entries → List A
  entries_in s x = taken (entries L x.count (drop x.start s))

  -- entries and next place lie within s, and the entries end there
  abbrev pub ListPlace : List ℕ → Taken Entries → Type 0
  ListPlace s t = (t.value.start ≤ length s) × (t.next ≤ length s) × (forget (entries L t.value.count (drop t.value.start s)) ≡ ok tt (drop t.next s))

  -- what reading a list at a place answers: its count, and as many entries
  abbrev pub ListAt : List ℕ → ℕ → Reading Entries → Type 0
  ListAt s at = Reads ((list_of L).get (drop at s)) (entries_in s) (ListPlace s) s

  -- the entries from a place on, gone over: what is read as a list behind its count
  abbrev pub Walked : List ℕ → ℕ → ℕ → Reading Entries → Type 0
  Walked s start count = Reads (entries L count (drop start s)) (entries_in s) (ListPlace s) s
