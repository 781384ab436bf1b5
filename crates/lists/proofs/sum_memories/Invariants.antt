use Prim.Native.Nat.{◌≤◌}
use mathlib.Core.Path.{◌≡◌}
use mathlib.Core.Bool.{true}
use lib.ListN.{length}
use Rattle.octets.specs.Layout.{put_all, listed, every}
use Rattle.tags.specs.Entry.{memory}
use Rattle.lists.specs.Handed.{held_at, inside_at}
use Rattle.lists.proofs.sum_memories.Given as goal

abbrev pub invariant-loop-i : goal.invariant-loop-i
invariant-loop-i l =
    (every (inside_at l.memories.starts.now l.memories.lengths.now l.memories.src.now) l.i ≡ true)
    × (l.size ≤ 2048)
    × (l.size ≡ length (put_all (memory l.memories.keys.form) (listed (held_at l.memories.keys.form l.memories.keys.tags.now l.memories.keys.passwords.now l.memories.starts.now l.memories.lengths.now l.memories.src.now) l.i)))
