use Rattle.octets.specs.Area.{Wrote}
use Rattle.octets.specs.Layout.{put_all, listed}
use Rattle.tags.specs.Entry.{key}
use Rattle.lists.specs.Handed.{key_at}
use Rattle.lists.proofs.put_keys.Given as goal

abbrev pub invariant-loop-i : goal.invariant-loop-i
invariant-loop-i l = Wrote l.initial.out l.at (put_all (key l.keys.form) (listed (key_at l.keys.form l.keys.tags.now l.keys.passwords.now) l.i)) l.out l.next
