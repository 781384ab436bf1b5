use Prim.Native.Nat.{◌-◌, ◌≤◌}
use mathlib.Core.Path.{◌≡◌}
use lib.ListN.{length, drop}
use Rattle.octets.specs.Reading.{forget}
use Rattle.octets.specs.Layout.{entries}
use Rattle.octets.proofs.read_list.Given as goal

abbrev pub invariant-loop : goal.invariant-loop
invariant-loop g l = (l.place ≤ length l.s) × (forget (entries (g.E.Entry.layout l.entry) l.count (drop l.start l.s)) ≡ forget (entries (g.E.Entry.layout l.entry) (l.count - l.counter) (drop l.place l.s)))
