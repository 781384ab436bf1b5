-- What is told of the tags of a list, entry by entry.
use Prim.Native.Nat.{ℕ, ◌+◌, ◌<◌, ◌≤◌}
use mathlib.Core.Path.{◌≡◌, sym, ◌∙◌}
use mathlib.Core.Bool.{true}
use mathlib.Core.List.{List, [], ◌∷◌}
use lib.ListN.{length, take}
use lib.Seq.{length-take-le}
use Rattle.octets.specs.Area.{Written, Does}
use Rattle.octets.specs.declared.Access.{Access}
use Rattle.octets.specs.declared.Form.TheVariants as f
use Rattle.octets.specs.declared.Port.{Port}
use Rattle.tags.specs.Entry.{Keyed}
use Rattle.resources.specs.declared.Resource.{Resource}
use Rattle.resources.specs.declared.Room.{Room}
use Rattle.resources.proofs.Bodies.{are-alongside}
use Rattle.answers.specs.Answer as b
use Rattle.answers.specs.Answer.{answer_writable, resource_information_sent}
use Rattle.rows.specs.Keyed.{Maybe}
use Rattle.admission.specs.declared.Head.{Head}
use Rattle.store.specs.Model.{State, Tag, Shows}
use Rattle.store.specs.Steps.{registered}
use Rattle.store.specs.Answers.{found}
use Rattle.store.specs.declared.Found.{Found}
use Rattle.responder.specs.Respond.{capped, room_of, told_of, all_told, resources_done}
use Rattle.responder.specs.Entry.{Sent, sent_of, Sends, Gives, resources_in, found_told}
use Rattle.std.specs.Prelude.{Option, Result, Ok, Err}
use Rattle.std.specs.Result.{OkIff, result_unwrap_or}
use borrow.Author.Tests.{lt-ltb, le-ltb}
use native.Mathlib.Omega.{arith}
use Rattle.std.proofs.Common.{rules}
use Rattle.responder.specs.declared.Information.{Information}
use Rattle.responder.proofs.Sends.{sends, described-so, version-is}
use Rattle.responder.proofs.Writable.{writable-short, Low, resources-fine}

-- ---- a number in its field

-- one that the field may not hold is told as the field's largest
pub capped-is : {E : Type 0} (most n x : ℕ) (r : Result ℕ E) → OkIff r (n < most + 1) n → x ≡ result_unwrap_or r most
    → x ≡ capped most n
capped-is most n x (Ok m) h e = rw (le-ltb most n (omega (arith, h.0))) (e ∙ h.1)
capped-is most n x (Err d) h e = rw (lt-ltb most n (omega (arith, h))) e

-- ---- the entries in turn

-- what is found of a tag is told of it
found-told : (m : Maybe Tag) (rs : List Resource) → found_told (found m) rs ≡ told_of m rs
found-told m rs = search rules

module _ (u : State) (rs goal : List Resource) where
  -- an entry more: what is left leads where the whole list leads
  pub telling-next : (x : ℕ) (a : Access) (now left : List Keyed) (rs' : List Resource) (r : Option Found)
      → now ≡ (x, a) ∷ left → r ≡ found (registered u x)
      → rs' ≡ found_told r rs → all_told u rs now ≡ goal → all_told u rs' left ≡ goal
  unfolding all_told
  telling-next x a now left rs' r e f t g = rw (t, f, found-told (registered u x) rs) (rw e at g)

  -- none is left
  pub telling-all : (left : List Keyed) → left ≡ [] → all_told u rs left ≡ goal → rs ≡ goal
  unfolding all_told
  telling-all left e g = rw e at g

-- ---- the answer

-- the first elements of the arrays, written as the answer that tells of them
pub resources-given : (c : Information) (version : ℕ) (x : Room) (old : List ℕ) {w : Written} {new : List ℕ}
    → c.count ≤ length c.tags → c.count ≤ length c.modes → c.count ≤ length c.held → c.count ≤ length c.sizes
    → Does (resource_information_sent version x (take c.count c.tags) (take c.count c.modes) (take c.count c.held)
    (take c.count c.sizes) old) w new
    → Gives version f.Plain (b.resource_information (x, resources_in c)) w old new
resources-given c version x old et em eh es d =
    let k = length-take-le c.count c.tags et in
    described-so _ _ old
    (are-alongside (take c.count c.tags) (take c.count c.modes) (take c.count c.held) (take c.count c.sizes)
    (length-take-le c.count c.modes em ∙ sym k) (length-take-le c.count c.held eh ∙ sym k)
    (length-take-le c.count c.sizes es ∙ sym k))
    d

-- it answers the list
pub resources-sent : (u : State) (h : Head) (table pool : List ℕ) → Shows u h table pool → (ks : List Keyed) → Low ks
    → length ks ≤ 16 → (x : Room) (rs : List Resource) {w : Written} {r : Sent} {old new : List ℕ}
    → x ≡ room_of u → rs ≡ all_told u [] ks → 2048 ≤ length old
    → Gives h.version f.Plain (b.resource_information (x, rs)) w old new → r ≡ sent_of w
    → Sends (resources_done u ks).reply r old new
unfolding resources_done
resources-sent u h table pool s ks l n x rs ex e room d er =
    let a = (resources_done u ks).reply in
    let g : answer_writable a ≡ true = resources-fine u Port.Normal f.Plain s.valid ks l n in
    sends a g (writable-short a g) room (rw (version-is s, ex, e) at d) er
