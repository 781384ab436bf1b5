use Prim.Native.Nat.{ℕ, ◌+◌, ◌≤◌}
use mathlib.Core.Path.{◌≡◌}
use mathlib.Core.List.{List}
use Rattle.octets.specs.View.{entries_in}
use Rattle.octets.specs.declared.Entries.{Entries}
use Rattle.octets.specs.declared.Form.TheVariants as f
use Rattle.tags.specs.Entry.{key}
use Rattle.admission.specs.declared.Head.{Head}
use Rattle.store.specs.Model.{State, Shows}
use Rattle.responder.specs.Entry.{resources_in}
use Rattle.responder.specs.Respond.{all_told}
use Rattle.responder.specs.declared.Information.{Information}
use Rattle.responder.proofs.Walks.{Walk, left}
use Rattle.responder.proofs.tell_each.Given as goal

pub record Inv (head : Head) (table s : List ℕ) (list : Entries) (first : Information) (at i : ℕ)
    (information : Information) : Type 0 where
  pub few : information.count ≤ first.count + i
  pub walk : Walk (key f.Plain) s list at i
  pub leads : (u : State) (pool : List ℕ) → Shows u head table pool
      → all_told u (resources_in information) (left (key f.Plain) s list at i) ≡ all_told u (resources_in first)
      (entries_in (key f.Plain) s list)

abbrev pub invariant-loop : goal.invariant-loop
invariant-loop l = Inv l.head l.table l.s l.fn.list l.initial.information l.at l.counter l.information
