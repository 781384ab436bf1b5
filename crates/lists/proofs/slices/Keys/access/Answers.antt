use native.Mathlib.Omega.{arith}
use lib.ListN.{length}
use Rattle.lists.proofs.Handed.{agrees_at}
use Rattle.lists.proofs.slices.Keys.access.Goals as goal

pub bounds-self-i : goal.bounds-self-i
bounds-self-i c =
    let e = agrees_at c.args.self.form (length c.args.self.tags.now) (length c.args.self.passwords.now) c.args.self.agree c.in-Password.is in
    omega arith
