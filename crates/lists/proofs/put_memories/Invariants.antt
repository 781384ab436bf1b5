use Rattle.octets.specs.Area.{Wrote}
use Rattle.octets.specs.Layout.{put_all, listed}
use Rattle.tags.specs.Entry.{memory}
use Rattle.lists.specs.Handed.{held_at}
use Rattle.lists.proofs.put_memories.Given as goal

abbrev pub invariant-loop-i : goal.invariant-loop-i
invariant-loop-i l = Wrote l.initial.out l.at (put_all (memory l.memories.keys.form) (listed (held_at l.memories.keys.form l.memories.keys.tags.now l.memories.keys.passwords.now l.memories.starts.now l.memories.lengths.now l.memories.src.now) l.i)) l.out l.next
