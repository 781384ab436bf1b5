-- Lists (document 01, 'Messages': a list is its count and then its entries) as a caller hands them over: slices side by side, entry i made of their elements at i.
use Rattle.std.specs.Prelude.{ℕ, ◌+◌, ◌<◌, ◌≤◌, ◌≡◌, ◌⊎◌, Bool, true, false, ◌&&◌, List, length, get_or, take, drop, leb, eqb, Option, Some, None}
use Rattle.octets.specs.Layout.{put_all, listed, list_of, every}
use Rattle.octets.specs.Area.{Outcome, described}
use Rattle.octets.specs.Frame.{sent}
use Rattle.octets.specs.declared.Access.{Access}
use Rattle.octets.specs.declared.Access.TheVariants as a
use Rattle.octets.specs.declared.Form.{Form}
use Rattle.octets.specs.declared.Form.TheVariants as f
use Rattle.tags.specs.Entry.{Keyed, Held, key, memory}

-- passwords are handed over for every tag, or for none
unfoldable pub agrees : Form → ℕ → ℕ → Bool
agrees f.Plain tags passwords = eqb passwords 0
agrees f.Password tags passwords = eqb passwords tags

-- the access of entry i
abbrev pub access_at : Form → List ℕ → ℕ → Access
access_at f.Plain passwords i = a.Plain
access_at f.Password passwords i = a.Password (get_or passwords i 0)

-- the tag of entry i, and its access
abbrev pub key_at : Form → List ℕ → List ℕ → ℕ → Keyed
key_at w tags passwords i = (get_or tags i 0, access_at w passwords i)

-- the entries, one for each tag
abbrev pub keys_of : Form → List ℕ → List ℕ → List Keyed
keys_of w tags passwords = listed (key_at w tags passwords) (length tags)

-- the data of entry i is the part of a common slice that starts at its start and has its length
abbrev pub held_at : Form → List ℕ → List ℕ → List ℕ → List ℕ → List ℕ → ℕ → Held
held_at w tags passwords starts lengths octets i = (key_at w tags passwords i, take (get_or lengths i 0) (drop (get_or starts i 0) octets))

-- the entries, one for each tag
abbrev pub held_of : Form → List ℕ → List ℕ → List ℕ → List ℕ → List ℕ → List Held
held_of w tags passwords starts lengths octets = listed (held_at w tags passwords starts lengths octets) (length tags)

-- the part of entry i lies within the octets
abbrev pub inside_at : List ℕ → List ℕ → List ℕ → ℕ → Bool
inside_at starts lengths octets i = leb (get_or starts i 0 + get_or lengths i 0) (length octets)

-- the slices belong together, and every part lies within the octets
unfoldable pub belong : Form → List ℕ → List ℕ → List ℕ → List ℕ → List ℕ → Bool
belong w tags passwords starts lengths octets =
    agrees w (length tags) (length passwords) && eqb (length starts) (length tags) && eqb (length lengths) (length tags) && every (inside_at starts lengths octets) (length tags)

-- ---- the writers

-- what the writer of a list of tags does to an area
unfoldable pub keys_sent : Form → ℕ → ℕ → List ℕ → List ℕ → List ℕ → Outcome × List ℕ
keys_sent w version kind tags passwords old = described (agrees w (length tags) (length passwords)) (sent (list_of (key w)) version kind (keys_of w tags passwords) old) old

-- what the writer of a list of memory data does to an area
unfoldable pub memories_sent : Form → ℕ → ℕ → List ℕ → List ℕ → List ℕ → List ℕ → List ℕ → List ℕ → Outcome × List ℕ
memories_sent w version kind tags passwords starts lengths octets old =
    described (belong w tags passwords starts lengths octets) (sent (list_of (memory w)) version kind (held_of w tags passwords starts lengths octets) old) old

-- what a list of memory data will take, if all its parts lie within the octets and it is not over 2,048 already
abbrev pub Measured : Form → List ℕ → List ℕ → List ℕ → List ℕ → List ℕ → ℕ → Option ℕ → Type 0
Measured w tags passwords starts lengths octets n (Some size) =
    (every (inside_at starts lengths octets) n ≡ true) × (size ≤ 2048) × (size ≡ length (put_all (memory w) (listed (held_at w tags passwords starts lengths octets) n)))
Measured w tags passwords starts lengths octets n None =
    (every (inside_at starts lengths octets) n ≡ false) ⊎ (2048 < length (put_all (memory w) (listed (held_at w tags passwords starts lengths octets) n)))
