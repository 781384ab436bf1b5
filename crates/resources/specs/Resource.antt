-- Allocation and resource information (tables 3.2-5 to 3.2-9 and 3.2-25). Allocation: tag, mode, size in four octets, the password where the form has one, initial value.
-- Resource information: the largest message, remaining tags and octets twice, the bulk limit, and a list of tags with mode, data size and area size.
use Rattle.std.specs.Prelude.{ℕ, Bool, ◌&&◌, ◌||◌, List, length, get_or, leb, eqb}
use Rattle.std.specs.List.{list_all}
use Rattle.octets.specs.Layout.{Layout, numeral, data', seq, via, only, listed, list_of}
use Rattle.octets.specs.Area.{Outcome, described}
use Rattle.octets.specs.Frame.{sent}
use Rattle.octets.specs.declared.Access.{Access}
use Rattle.octets.specs.declared.Form.{Form}
use Rattle.tags.specs.Entry.{lock}
use Rattle.resources.specs.declared.Room.{Room}
use Rattle.resources.specs.declared.Resource.{Resource}

-- five zero bits, SPF required, writing prohibited, reading prohibited; never both prohibited: 00, 01, 02, 04, 05, 06 (3.2-1).
-- Of others, 16: "a mode code that the tables lack"
unfoldable pub mode_known : ℕ → Bool
mode_known n = leb n 2 || (leb 4 n && leb n 6)

-- a mode code, in one octet
abbrev pub mode : Layout ℕ
mode = only mode_known (numeral 1)

-- ---- allocation

-- what an allocation asks
pub record Grant : Type 0 where
  pub tag : ℕ
  pub mode : ℕ
  pub size : ℕ
  pub access : Access
  pub initial : List ℕ

-- its parts in the order of their octets
abbrev pub grant_parts : Grant → ℕ × (ℕ × (ℕ × (Access × List ℕ)))
grant_parts g = (g.tag, (g.mode, (g.size, (g.access, g.initial))))

-- and the allocation of such parts
abbrev pub grant_of : ℕ × (ℕ × (ℕ × (Access × List ℕ))) → Grant
grant_of p = record { tag = p.0; mode = p.1.0; size = p.1.1.0; access = p.1.1.1.0; initial = p.1.1.1.1 }

-- tag, mode, size, the password where the form has one, initial value (3.2-9, 3.2-25)
abbrev pub allocation : Form → Layout Grant
allocation w = via grant_of grant_parts (seq (numeral 8) (seq mode (seq (numeral 4) (seq (lock w) data'))))

-- ---- resource information

-- what a unit has left, in the order of its octets
abbrev pub room_parts : Room → ℕ × (ℕ × (ℕ × (ℕ × (ℕ × ℕ))))
room_parts x = (x.largest, (x.tags, (x.octets, (x.volatile_tags, (x.volatile_octets, x.entries)))))

-- and back
abbrev pub room_of : ℕ × (ℕ × (ℕ × (ℕ × (ℕ × ℕ)))) → Room
room_of p = record { largest = p.0; tags = p.1.0; octets = p.1.1.0; volatile_tags = p.1.1.1.0; volatile_octets = p.1.1.1.1.0; entries = p.1.1.1.1.1 }

-- largest receivable size, remaining tags and octets, the same for volatile ones, bulk limit (3.2-5, 3.2-6)
abbrev pub room : Layout Room
room = via room_of room_parts (seq (numeral 4) (seq (numeral 2) (seq (numeral 4) (seq (numeral 2) (seq (numeral 4) (numeral 2))))))

-- what is told of one tag, in the order of its octets
abbrev pub resource_parts : Resource → ℕ × (ℕ × (ℕ × ℕ))
resource_parts x = (x.tag, (x.mode, (x.held, x.size)))

-- and back
abbrev pub resource_of : ℕ × (ℕ × (ℕ × ℕ)) → Resource
resource_of p = record { tag = p.0; mode = p.1.0; held = p.1.1.0; size = p.1.1.1 }

-- tag, mode, data size, area size (3.2-7)
abbrev pub resource : Layout Resource
resource = via resource_of resource_parts (seq (numeral 8) (seq mode (seq (numeral 4) (numeral 4))))

-- resource information: what a unit has left, and a list of its tags
abbrev pub resources : Layout (Room × List Resource)
resources = seq room (list_of resource)

-- ---- a list of tags with their resources, as a caller hands it over: slices side by side, entry i made of their elements at i

-- what is told of the tag at place i
abbrev pub resource_at : List ℕ → List ℕ → List ℕ → List ℕ → ℕ → Resource
resource_at tags modes held sizes i = record { tag = get_or tags i 0; mode = get_or modes i 0; held = get_or held i 0; size = get_or sizes i 0 }

-- the entries, one for each tag
abbrev pub resources_of : List ℕ → List ℕ → List ℕ → List ℕ → List Resource
resources_of tags modes held sizes = listed (resource_at tags modes held sizes) (length tags)

-- every mode code stands in the tables
abbrev pub every_mode : List ℕ → Bool
every_mode modes = list_all mode_known modes

-- the slices are of one length
unfoldable pub alongside : List ℕ → List ℕ → List ℕ → List ℕ → Bool
alongside tags modes held sizes = eqb (length modes) (length tags) && eqb (length held) (length tags) && eqb (length sizes) (length tags)

-- what the writer of resource information does to an area
unfoldable pub resources_sent : ℕ → ℕ → Room → List ℕ → List ℕ → List ℕ → List ℕ → List ℕ → Outcome × List ℕ
resources_sent version kind x tags modes held sizes old = described (alongside tags modes held sizes) (sent resources version kind (x, resources_of tags modes held sizes) old) old
