-- The list of a request that reads to its end, whole: there are as many entries as it says, and each of their tags is a number of eight octets.
use Prim.Native.Nat.{ℕ}
use mathlib.Core.Path.{◌≡◌}
use mathlib.Core.List.{List}
use lib.ListN.{length}
use Rattle.octets.specs.Reading.{Octets}
use Rattle.octets.specs.View.{entries_in}
use Rattle.octets.specs.declared.Entries.{Entries}
use Rattle.octets.specs.declared.Form.{Form}
use Rattle.tags.specs.Entry.{key, memory}
use Rattle.tags.proofs.Entries.{key-lawful, memory-lawful}
use Rattle.requests.specs.View.{ListEnds}
use Rattle.responder.specs.Demands.{carried_of}
use Rattle.responder.proofs.Walks.{list-whole}
use Rattle.responder.proofs.Writable.{Low, keys-low, helds-low}

module _ (w : Form) (s : List ℕ) (x : Entries) (o : Octets s) where
  -- tags
  pub keys-whole : ListEnds (key w) s x → Low (entries_in (key w) s x) × (length (entries_in (key w) s x) ≡ x.count)
  keys-whole h = let y = list-whole (key w) (key-lawful w) s x o h in (keys-low w (entries_in (key w) s x) y.0, y.1)

  -- tags with data
  pub helds-whole : ListEnds (memory w) s x → Low (carried_of (entries_in (memory w) s x)) × (length (entries_in (memory w) s x) ≡ x.count)
  helds-whole h = let y = list-whole (memory w) (memory-lawful w) s x o h in (helds-low w (entries_in (memory w) s x) y.0, y.1)
