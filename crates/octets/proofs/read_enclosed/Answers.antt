use mathlib.Core.Path.{sym}
use native.Mathlib.Omega.{arith}
use Rattle.std.proofs.lemmas.Result.{err_from_is_err_and}
use Rattle.octets.proofs.Frames.{enclosed-none, enclosed-profile, enclosed-length, enclosed-not, enclosed-is}
use Rattle.octets.proofs.read_enclosed.Goals as goal

pub returns-in_default : goal.returns-in_default
returns-in_default c = record { says = sym (enclosed-none c.args.s.now (omega arith)); place = tt }

pub returns-in_default-2 : goal.returns-in_default-2
returns-in_default-2 c =
    record { says = sym (enclosed-profile c.args.s.now (omega arith) (λ e. omega arith)); place = tt }

pub returns-then-left_at-n : goal.returns-then-left_at-n
returns-then-left_at-n c =
    let e = rw c.in_ok-n.was at c.read_length.ensures in
    record { says = sym (enclosed-not c.args.s.now (omega arith) (omega arith) _ _ e.says (λ q. omega (arith, c.left_at.ensures))); place = tt }

pub returns-in_err-n : goal.returns-in_err-n
returns-in_err-n c =
    let e = rw c.in_err-n.was at c.read_length.ensures in
    let p = err_from_is_err_and c.from_residual.result c.from_residual.ensures.1 in
    rw (p.1, p.2) (record { says = sym (enclosed-length c.args.s.now (omega arith) (omega arith) _ e.says); place = tt })

pub returns : goal.returns
returns c =
    let e = rw c.in_ok-n.was at c.read_length.ensures in
    record { says = sym (enclosed-is c.args.s.now (omega arith) (omega arith) _ _ e.says (omega (arith, c.left_at.ensures))); place = e.place.1 }
