-- What the entry's promise says of its result, of the answer area and of head, table and memory.
use Rattle.std.specs.Prelude.{ℕ, ◌+◌, ◌≤◌, ◌≡◌, true, List, [], ◌∷◌, ◌++◌, length, take, drop, Option, Some, None, Result, Ok, Err}
use Rattle.octets.specs.Layout.{put_all, every}
use Rattle.octets.specs.declared.Form.{Form}
use Rattle.octets.specs.declared.Form.TheVariants.{Plain}
use Rattle.octets.specs.Area.{Written, Does}
use Rattle.tags.specs.Entry.{Keyed, Held, memory}
use Rattle.lists.specs.Handed.{keys_of, held_of, inside_at}
use Rattle.resources.specs.Resource.{resources_of}
use Rattle.resources.specs.declared.Resource.{Resource}
use Rattle.admission.specs.declared.Limits.{Limits}
use Rattle.answers.specs.Answer.{Answer, answer, accepted, answer_octets, answer_sent}
use Rattle.answers.specs.Answer as b
use Rattle.store.specs.Answers.{held_in, HeldPlace}
use Rattle.store.specs.Model.{Shows}
use Rattle.octets.specs.declared.Span.{Span}
use Rattle.store.specs.declared.Found.{Found}
use Rattle.admission.specs.declared.Denial.{Denial}
use Rattle.admission.specs.Denial as v
use Rattle.admission.specs.declared.Head.{Head}
use Rattle.requests.specs.declared.Operation.{Operation}
use Rattle.requests.specs.declared.Operation.TheVariants as o
use Rattle.responder.specs.Respond.{Done, denial, resource_as, given, Line, number, none, Result as Outcome, silent, replied, Out, Writes}
use Rattle.responder.specs.declared.Information.{Information}
use Rattle.responder.specs.declared.Chosen.{Chosen}
use Rattle.responder.specs.declared.Names.{Names}
use Rattle.responder.specs.declared.Reply.{Reply}

-- what the caller is told: document 01's number, or the length of the answer
pub data Word : Type 0 where
  length-is : ℕ → Word
  refusal : ℕ → Word

-- what the entry's caller is told: the length of the answer; where the area is too short there is none
abbrev pub Sent : Type 0
Sent = Option ℕ

-- what that says: without an answer the number is 300
abbrev pub word_of : Sent → Word
word_of (Some n) = length-is n
word_of None = refusal 300

-- what a result says
abbrev pub word_for : Outcome → Word
word_for (silent n) = refusal n
word_for (replied a) = length-is (length (answer_octets a))

-- the octets of an answer; where none is given there are none
abbrev pub spoken : Outcome → List ℕ
spoken (silent n) = []
spoken (replied a) = answer_octets a

-- the area afterwards: "octets past the answer keep their old content"
abbrev pub area_for : Outcome → List ℕ → List ℕ
area_for r old = spoken r ++ drop (length (spoken r)) old

-- what is told of a written message; an area of 2,048 octets has room for every reply, so that the other two cases do not come up
abbrev pub sent_of : Written → Sent
sent_of (Ok n) = Some n
sent_of (Err e) = None

-- the line of the table that the answer of first_lines is
abbrev pub line_of : Result (Unit {0}) Denial → Line
line_of (Err e) = number (v.number e)
line_of (Ok u) = none

-- how many entries an operation's list has
abbrev pub count_of : Operation → ℕ
count_of (o.Resources list) = list.count
count_of (o.Allocate x) = 0
count_of (o.Free access tag) = 0
count_of (o.Read access tag) = 0
count_of (o.Write access tag span) = 0
count_of (o.BulkRead w list) = list.count
count_of (o.BulkWrite w list) = list.count

-- what comes of writing an answer with that body: its length, or why it is not written; and the area afterwards
abbrev pub Gives : ℕ → Form → b.Body → Written → List ℕ → List ℕ → Type 0
Gives version w body r old new = Does (answer_sent (accepted (answer version w body)) old) r new

-- an answer was written into the area
pub record Sends (a : Answer) (r : Sent) (old new : List ℕ) : Type 0 where
  pub says : r ≡ Some (length (answer_octets a))
  pub area : new ≡ area_for (replied a) old

-- an answer was written, and head, table and memory stand for the unit afterwards
pub record Serves (d : Done) (r : Reply) (old new table pool : List ℕ) : Type 0 where
  pub sends : Sends d.reply r.sent old new
  pub left : Shows d.unit r.head table pool

-- a denial that is not written yet: the reply by its number, the area as it was, and head, table and memory for the
-- unit afterwards
pub record Denies (d : Done) (head : Head) (e : Denial) (old new table pool : List ℕ) : Type 0 where
  pub says : d.reply ≡ denial head.version (v.number e)
  pub area : new ≡ old
  pub left : Shows d.unit head table pool

-- a reply that is written, or a denial that is not written yet
abbrev pub Served : Done → Head → Result Reply Denial → List ℕ → List ℕ → List ℕ → List ℕ → Type 0
Served d head (Ok r) old new table pool = Serves d r old new table pool
Served d head (Err e) old new table pool = Denies d head e old new table pool

-- the entry's promise
pub record Responded (o : Out) (r : Reply) (old new table pool : List ℕ) : Type 0 where
  pub says : word_of r.sent ≡ word_for o.result
  pub area : new ≡ area_for o.result old
  pub left : Shows o.unit r.head table pool

-- ---- lists as they grow, in arrays side by side

-- what the first entries tell of tags
abbrev pub resources_in : Information → List Resource
resources_in x = resources_of (take x.count x.tags) (take x.count x.modes) (take x.count x.held) (take x.count x.sizes)

-- what is told of a tag that was found, behind what was told before
abbrev pub found_told : Option Found → List Resource → List Resource
found_told None rs = rs
found_told (Some f) rs = rs ++ resource_as f.about f.held ∷ []

-- the first names, in an answer
abbrev pub names_in : Names → List Keyed
names_in x = keys_of Plain (take x.count x.tags) []

-- the entries that are chosen, their data in the memory
abbrev pub picked : Chosen → List ℕ → List Held
picked c pool = held_of Plain (take c.count c.tags) [] (take c.count c.starts) (take c.count c.lengths) pool

-- they lie within the memory, and take so many octets
pub record Picked (c : Chosen) (pool : List ℕ) : Type 0 where
  pub inside : every (inside_at (take c.count c.starts) (take c.count c.lengths) pool) c.count ≡ true
  pub size : length (put_all (memory Plain) (picked c pool)) ≡ c.size

-- an entry more, if its data is given and there is room for it
pub record Chooses (held : Result Span Denial) (tag : ℕ) (c r : Chosen) : Type 0 where
  pub few : r.count ≤ c.count + 1
  pub small : r.size ≤ 2041
  pub grown : (pool : List ℕ) (l : Limits) → HeldPlace pool l held → Picked c pool
      → Picked r pool × (picked r pool ≡ given (picked c pool) tag (held_in pool held))

-- the names of what was written, and head, table and memory for the unit afterwards
pub record Wrote (e : Writes) (names : List Keyed) (head : Head) (table pool : List ℕ) : Type 0 where
  pub says : names ≡ e.names
  pub left : Shows e.unit head table pool
