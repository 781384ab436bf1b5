use Prim.Native.Nat.{◌≤◌}
use lib.ListN.{length}
use Rattle.octets.specs.Area.{Wrote}
use Rattle.octets.specs.Layout.{put_all, listed}
use Rattle.resources.specs.Resource.{resource, resource_at}
use Rattle.resources.proofs.put_resources.Given as goal

abbrev pub invariant-loop-i : goal.invariant-loop-i
invariant-loop-i l = (l.i ≤ length l.tags) × Wrote l.initial.out l.at (put_all resource (listed (resource_at l.tags l.modes l.held l.sizes) l.i)) l.out l.next
