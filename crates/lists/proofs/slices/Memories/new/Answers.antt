use mathlib.Core.Path.{refl}
use Rattle.lists.proofs.Handed.{starts_apart, lengths-apart}
use Rattle.lists.proofs.slices.Memories.new.Goals as goal

pub returns-then-starts-n : goal.returns-then-starts-n
returns-then-starts-n c =
    (refl, starts_apart c.args.keys.form c.args.keys.tags.now c.args.keys.passwords.now c.args.starts.now c.args.lengths.now c.args.src.now c.args.keys.agree c.if-starts-n.true)

pub returns-then-lengths-n : goal.returns-then-lengths-n
returns-then-lengths-n c =
    (refl, lengths-apart c.args.keys.form c.args.keys.tags.now c.args.keys.passwords.now c.args.starts.now c.args.lengths.now c.args.src.now c.args.keys.agree c.if-starts-n.false c.if-lengths-n.true)
