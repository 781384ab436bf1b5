-- The unit as document 01 has it ('Sizes', 'Tags'): its kind's limits, its version, its options and its registered tags. And what stands for it: the head, the table
-- and the memory. Nothing here is said of one kind of unit but `first_kind`.
use Rattle.std.specs.Prelude.{ℕ, ◌+◌, ◌-◌, ◌*◌, ◌≤◌, ◌≡◌, Bool, List, [], ◌∷◌, ◌++◌, length, replicate}
use Rattle.octets.specs.Number.{bare}
use Rattle.admission.specs.declared.Attributes.{Attributes}
use Rattle.admission.specs.declared.Head.{Head}
use Rattle.admission.specs.declared.Limits.{Limits}
use Rattle.rows.specs.Image.{image}
use Rattle.rows.specs.Keyed.{Apart}
use Rattle.rows.specs.Row.{words}
use Rattle.rows.specs.declared.Slot.{Slot}

-- "A registered tag has an area size, a held length (0 after allocation), its data, a mode (read only, write only, or both), whether SPF is required, and a password of
-- 8 octets or none."
pub record Tag : Type 0 where
  pub about : Attributes
  pub held : List ℕ

-- "A unit is started with its own version (0 to 15) and two options: allocation fitted or not, passwords fitted or not." Its limits are its kind's; its tags stand as they
-- were registered
pub record State : Type 0 where
  pub limits : Limits
  pub version : ℕ
  pub allocation : Bool
  pub passwords : Bool
  pub tags : List Tag

-- "For the first kind: 32 tags; 8,192 octets of memory for all areas together; an area of 1 to 1,024 octets; a request and an answer of at most 2,048 octets; at most
-- 16 entries in a list."
abbrev pub first_kind : Limits
first_kind = record { tags = 32; memory = 8192; area = 1024; message = 2048; list = 16 }

-- the unit that a start gives: "it has no tags"
abbrev pub new_unit : Limits → ℕ → Bool → Bool → State
new_unit l v a p = record { limits = l; version = v; allocation = a; passwords = p; tags = [] }

-- the same unit with other tags
abbrev pub holding : State → List Tag → State
holding u m = record { limits = u.limits; version = u.version; allocation = u.allocation; passwords = u.passwords; tags = m }

-- the number by which a tag is found: "A tag is 8 octets"
abbrev pub tag_id : Tag → ℕ
tag_id t = t.about.tag

-- the sizes of all areas together
unfoldable pub total : List Tag → ℕ
total [] = 0
total (t ∷ ts) = t.about.size + total ts

-- ---- a unit that is in order

-- "an area of 1 to 1,024 octets", its data within it, the tag's six ignored bits zero
pub record Proper (l : Limits) (t : Tag) : Type 0 where
  pub bits : bare (tag_id t) ≡ tag_id t
  pub some : 1 ≤ t.about.size
  pub small : t.about.size ≤ l.area
  pub fits : length t.held ≤ t.about.size

-- P holds of each tag
unfoldable pub Each : (Tag → Type 0) → List Tag → Type 0
Each P [] = ◌≡◌ {A = ℕ} 0 0
Each P (t ∷ ts) = P t × Each P ts

-- the limits that every kind shares: areas of at most 1,024 octets, messages of 2,048, lists of 16
pub record Shared (l : Limits) : Type 0 where
  pub area : l.area ≤ 1024
  pub message : l.message ≡ 2048
  pub list : l.list ≡ 16

-- "its own version (0 to 15)"; no more tags and octets than the kind has; no tag twice
pub record Valid (u : State) : Type 0 where
  pub shared : Shared u.limits
  pub low : u.version ≤ 15
  pub few : length u.tags ≤ u.limits.tags
  pub room : total u.tags ≤ u.limits.memory
  pub proper : Each (Proper u.limits) u.tags
  pub apart : Apart tag_id u.tags

-- ---- what stands for it

-- the head of a unit: with how many tags there are, and how many octets their areas take
abbrev pub head_of : State → Head
head_of u = record {
  limits = u.limits;
  version = u.version;
  allocation = u.allocation;
  passwords = u.passwords;
  count = length u.tags;
  used = total u.tags;
}

-- a tag's area: its data, then zeros up to its size
unfoldable pub area : Tag → List ℕ
area t = t.held ++ replicate (t.about.size - length t.held) 0

-- the slot of a tag whose area starts at a place
abbrev pub slot_of : ℕ → Tag → Slot
slot_of at t = record { about = t.about; at = at; held = length t.held }

-- the slots of tags whose areas stand one after another from k on
unfoldable pub located : ℕ → List Tag → List Slot
located k [] = []
located k (t ∷ ts) = slot_of k t ∷ located (k + t.about.size) ts

-- the slots in the order of the table: as registered
unfoldable pub arranged : List Tag → List Slot
arranged m = located 0 m

-- head, table and memory stand for the unit u: every word and every octet. Rows and octets that are not used are zero
pub record Shows (u : State) (h : Head) (table pool : List ℕ) : Type 0 where
  pub head : h ≡ head_of u
  pub rows : table ≡ image words (arranged u.tags) (u.limits.tags * 8)
  pub octets : pool ≡ image area u.tags u.limits.memory
  pub valid : Valid u

-- they stand for some unit: "this is all that an entry may take for granted of the unit handed to it"
pub record Sound (h : Head) (table pool : List ℕ) : Type 0 where
  pub unit : State
  pub shown : Shows unit h table pool
