use Prim.Native.Nat.{ℕ, ◌+◌, ◌≤◌}
use mathlib.Core.List.{List}
use Rattle.octets.specs.View.{entries_in}
use Rattle.octets.specs.declared.Entries.{Entries}
use Rattle.octets.specs.declared.Form.{Form}
use Rattle.octets.specs.declared.Port.{Port}
use Rattle.tags.specs.Entry.{key}
use Rattle.admission.specs.declared.Head.{Head}
use Rattle.store.specs.Model.{State, Shows}
use Rattle.responder.specs.Entry.{picked, Picked}
use Rattle.responder.specs.Respond.{all_reads}
use Rattle.responder.specs.declared.Chosen.{Chosen}
use Rattle.responder.proofs.Chooses.{Going}
use Rattle.responder.proofs.Walks.{Walk, left}
use Rattle.responder.proofs.choose_each.Given as goal

pub record Inv (head : Head) (table : List ℕ) (port : Port) (form : Form) (s : List ℕ) (list : Entries)
    (first : Chosen) (at i : ℕ) (chosen : Chosen) : Type 0 where
  pub few : chosen.count ≤ first.count + i
  pub small : chosen.size ≤ 2041
  pub walk : Walk (key form) s list at i
  pub leads : (u : State) (pool : List ℕ) → Shows u head table pool → Picked first pool
      → Going u port pool (all_reads u port (picked first pool) (entries_in (key form) s list))
      (left (key form) s list at i) chosen

abbrev pub invariant-loop : goal.invariant-loop
invariant-loop l = Inv l.head l.table l.port l.form l.s l.fn.list l.initial.chosen l.at l.counter l.chosen
