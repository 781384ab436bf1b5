-- What the gate's writers and readers give and do, by the definitions of the message layer. A reader's words go into a lent slice of words: as many as it has to tell,
-- and those behind them stay.
use Rattle.std.specs.Prelude.{Result, Ok, Err, cond, ℕ, ◌≡◌, List, [], ◌∷◌, ◌++◌, ℤ, length, drop, ltb}
use Rattle.octets.specs.Area.{Outcome, done, refused}
use Rattle.octets.specs.Reading.{fault_number}
use Rattle.octets.specs.View.{Reading}
use Rattle.octets.specs.declared.Fault.{Fault}
use Rattle.octets.specs.declared.Form.TheVariants.{Plain}
use Rattle.tags.specs.View.{KeyAt, MemoryAt}
use Rattle.tags.specs.declared.Key.{Key}
use Rattle.tags.specs.declared.Memory.{Memory}
use Rattle.resources.specs.View.{ResourceAt}
use Rattle.resources.specs.declared.Resource.{Resource}
use Rattle.resources.specs.declared.Room.{Room}
use Rattle.answers.specs.View.{given_kind, Understood}
use Rattle.answers.specs.declared.Given.{Given}
use Rattle.answers.specs.declared.Given.TheVariants as g
use Rattle.answers.specs.declared.Reply.{Reply}
use Rattle.answers.specs.declared.Reply.TheVariants as r
use Rattle.capi.specs.Result.{number_of}

-- the number is the outcome's, and the lent slice is left as it says
pub record Gives (o : Outcome × List ℕ) (r : ℤ) (new : List ℕ) : Type 0 where
  pub says : r ≡ number_of o.0
  pub area : new ≡ o.1

-- ---- readers

-- words put at the front of a lent slice, if it has room for them; n is told
unfoldable pub filled : ℕ → List ℕ → List ℕ → Outcome × List ℕ
filled n words old = cond (ltb (length old) (length words)) (refused 300, old) (done n, words ++ drop (length words) old)

-- ---- an answer: type, version, status, tag, first place, length or count, and what a unit can take. 0 where an answer has no such word

-- the words of an answer that says nothing of room
abbrev pub roomless : ℕ → ℕ → ℕ → ℕ → ℕ → ℕ → List ℕ
roomless kind version status tag start count = kind ∷ version ∷ status ∷ tag ∷ start ∷ count ∷ 0 ∷ 0 ∷ 0 ∷ 0 ∷ 0 ∷ 0 ∷ []

-- those of resource information
abbrev pub room_words : ℕ → ℕ → ℕ → Room → List ℕ
room_words version start count x =
    128 ∷ version ∷ 0 ∷ 0 ∷ start ∷ count ∷ x.largest ∷ x.tags ∷ x.octets ∷ x.volatile_tags ∷ x.volatile_octets ∷ x.entries ∷ []

-- those of each answer
abbrev pub given_words : ℕ → Given → List ℕ
given_words version (g.Resources x list) = room_words version list.start list.count x
given_words version (g.Allocate w tag) = roomless (given_kind (g.Allocate w tag)) version 0 tag 0 0
given_words version (g.Free w tag) = roomless (given_kind (g.Free w tag)) version 0 tag 0 0
given_words version (g.Read w tag p) = roomless (given_kind (g.Read w tag p)) version 0 tag p.start p.len
given_words version (g.Write w tag) = roomless (given_kind (g.Write w tag)) version 0 tag 0 0
given_words version (g.BulkRead w list) = roomless (given_kind (g.BulkRead w list)) version 0 0 list.start list.count
given_words version (g.BulkWrite w list) = roomless (given_kind (g.BulkWrite w list)) version 0 0 list.start list.count

-- the answer's type is told, and 255 for a denial
abbrev pub reply_filled : Result Reply Fault → List ℕ → Outcome × List ℕ
reply_filled (Ok (r.Accepted version x)) old = filled (given_kind x) (given_words version x) old
reply_filled (Ok (r.Denied version status p)) old = filled 255 (roomless 255 version status 0 p.start p.len) old
reply_filled (Err f) old = (refused (fault_number f), old)

-- the one reply that the octets are
pub record ReadsAnswer (s old : List ℕ) (r : ℤ) (new : List ℕ) : Type 0 where
  pub reply : Result Reply Fault
  pub understood : Understood s reply
  pub gives : Gives (reply_filled reply old) r new

-- ---- an entry of a list

-- "if the octets are over 2,048", 16: no list stands in such octets
abbrev pub short : List ℕ → Outcome × List ℕ → List ℕ → Outcome × List ℕ
short s o old = cond (ltb 2048 (length s)) (refused 16, old) o

-- the tag; the next place is told
abbrev pub key_filled : Reading Key → List ℕ → Outcome × List ℕ
key_filled (Ok t) old = filled t.next (t.value.tag ∷ []) old
key_filled (Err f) old = (refused (fault_number f), old)

-- the one tag that stands at a place
pub record ReadsTag (s : List ℕ) (at : ℕ) (old : List ℕ) (r : ℤ) (new : List ℕ) : Type 0 where
  pub entry : Reading Key
  pub stands : KeyAt s at Plain entry
  pub gives : Gives (short s (key_filled entry old) old) r new

-- the tag, and its data's first place and length
abbrev pub memory_filled : Reading Memory → List ℕ → Outcome × List ℕ
memory_filled (Ok t) old = filled t.next (t.value.tag ∷ t.value.span.start ∷ t.value.span.len ∷ []) old
memory_filled (Err f) old = (refused (fault_number f), old)

-- the one memory data that stands at a place
pub record ReadsMemory (s : List ℕ) (at : ℕ) (old : List ℕ) (r : ℤ) (new : List ℕ) : Type 0 where
  pub entry : Reading Memory
  pub stands : MemoryAt s at Plain entry
  pub gives : Gives (short s (memory_filled entry old) old) r new

-- the tag, its mode code, its data size and its area size
abbrev pub resource_filled : Reading Resource → List ℕ → Outcome × List ℕ
resource_filled (Ok t) old = filled t.next (t.value.tag ∷ t.value.mode ∷ t.value.held ∷ t.value.size ∷ []) old
resource_filled (Err f) old = (refused (fault_number f), old)

-- what is told of the one tag at a place
pub record ReadsResource (s : List ℕ) (at : ℕ) (old : List ℕ) (r : ℤ) (new : List ℕ) : Type 0 where
  pub entry : Reading Resource
  pub stands : ResourceAt s at entry
  pub gives : Gives (short s (resource_filled entry old) old) r new
