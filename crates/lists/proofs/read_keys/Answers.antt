use Rattle.tags.specs.Entry.{key}
use Rattle.octets.proofs.Walks.{list-walked}
use Rattle.lists.proofs.Walks.{keys-cut, keys-all}
use Rattle.lists.proofs.read_keys.Goals as goal

pub returns-then-s-start : goal.returns-then-s-start
returns-then-s-start c =
    let e = c.in_ok-count.ensures in
    list-walked (key c.args.form) c.args.s.now e (keys-cut c.args.form c.args.s.now _ _ c.lock_size.ensures.0 c.if-s-start.true)

pub returns : goal.returns
returns c =
    let e = c.in_ok-count.ensures in
    list-walked (key c.args.form) c.args.s.now e (keys-all c.args.form c.args.s.now _ _ c.lock_size.ensures.0 e.place.1 c.if-s-start.false)
