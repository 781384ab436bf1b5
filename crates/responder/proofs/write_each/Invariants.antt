use mathlib.Core.List.{List}
use Prim.Native.Nat.{ℕ, ◌+◌, ◌≤◌}
use Rattle.octets.specs.View.{entries_in}
use Rattle.octets.specs.declared.Entries.{Entries}
use Rattle.octets.specs.declared.Form.{Form}
use Rattle.octets.specs.declared.Port.{Port}
use Rattle.tags.specs.Entry.{memory}
use Rattle.admission.specs.declared.Head.{Head}
use Rattle.store.specs.Model.{State, Shows, Sound}
use Rattle.responder.specs.Entry.{names_in}
use Rattle.responder.specs.Respond.{all_writes}
use Rattle.responder.specs.declared.Names.{Names}
use Rattle.responder.proofs.Walks.{Walk, left}
use Rattle.responder.proofs.Writes.{Rest}
use Rattle.responder.proofs.write_each.Given as goal

pub record Inv (head : Head) (table₀ pool₀ : List ℕ) (port : Port) (form : Form) (s : List ℕ) (list : Entries)
    (first : Names) (table pool : List ℕ) (at i : ℕ) (names : Names) : Type 0 where
  pub few : names.count ≤ first.count + i
  pub sound : Sound head table pool
  pub walk : Walk (memory form) s list at i
  pub leads : (u : State) → Shows u head table₀ pool₀
      → Rest port (all_writes port (record { names = names_in first; unit = u }) (entries_in (memory form) s list))
      (left (memory form) s list at i) (names_in names) head table pool

abbrev pub invariant-loop : goal.invariant-loop
invariant-loop l = Inv l.head l.initial.table l.initial.pool l.port l.form l.s l.fn.list l.initial.names l.table l.pool
    l.at l.counter l.names
