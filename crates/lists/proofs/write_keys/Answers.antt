use mathlib.Core.Path.{ap, ◌∙◌}
use native.Mathlib.Omega.{arith}
use Rattle.std.specs.Prelude.{Err}
use Rattle.std.proofs.lemmas.Result.{err_from_is_err_and}
use Rattle.lists.specs.Handed.{keys_sent}
use Rattle.lists.proofs.Lists.{ready-stopped, ready-room, ready-done}
use Rattle.lists.proofs.Handed.{Words, keys-ready, keys-apart, keys-many}
use Rattle.lists.proofs.write_keys.Goals as goal

pub returns-in_err-keys : goal.returns-in_err-keys
returns-in_err-keys c =
    let r = err_from_is_err_and c.from_residual.result c.from_residual.ensures.1 in
    let e = c.in_err-keys.ensures in
    rw (r.1 ∙ ap Err (r.2 ∙ e.0)) (keys-apart c.args.form c.args.tags.now c.args.passwords.now c.args.version c.args.kind c.args.out.now e.1)

pub returns-then-n-gt2048 : goal.returns-then-n-gt2048
returns-then-n-gt2048 c =
    keys-many c.args.form c.args.tags.now c.args.passwords.now c.args.version c.args.kind c.args.out.now c.if-n-gt2048.true

pub returns-in_err-at : goal.returns-in_err-at
unfolding keys_sent
returns-in_err-at c =
    let e = c.in_ok-keys.ensures in
    let o : Words c.args.tags.now = λ k. (c.type_inv.tags k).fits in
    let u : Words c.args.passwords.now = λ k. (c.type_inv.passwords k).fits in
    let t = rw (e.0, e.1, e.2) at c.in_ok-keys.keys.agree in
    let g = keys-ready c.args.form c.args.tags.now c.args.passwords.now t (omega arith) o u c.length_size.ensures.0 c.lock_size.ensures.0 in
    ready-stopped g c.args.version c.args.kind c.args.out.now c.in_err-at.ensures c.from_residual-in_err-at.ensures.1

pub put_keys-requires : goal.put_keys-requires
put_keys-requires c =
    let e = c.in_ok-keys.ensures in
    let o : Words c.args.tags.now = λ k. (c.type_inv.tags k).fits in
    let u : Words c.args.passwords.now = λ k. (c.type_inv.passwords k).fits in
    let t = rw (e.0, e.1, e.2) at c.in_ok-keys.keys.agree in
    let g = keys-ready c.args.form c.args.tags.now c.args.passwords.now t (omega arith) o u c.length_size.ensures.0 c.lock_size.ensures.0 in
    rw (e.0, e.1, e.2) (ready-room g c.args.version c.args.kind c.args.out.now c.in_ok-at.ensures c.write_length-first.ensures)

pub returns : goal.returns
unfolding keys_sent
returns c =
    let e = c.in_ok-keys.ensures in
    let o : Words c.args.tags.now = λ k. (c.type_inv.tags k).fits in
    let u : Words c.args.passwords.now = λ k. (c.type_inv.passwords k).fits in
    let t = rw (e.0, e.1, e.2) at c.in_ok-keys.keys.agree in
    let g = keys-ready c.args.form c.args.tags.now c.args.passwords.now t (omega arith) o u c.length_size.ensures.0 c.lock_size.ensures.0 in
    ready-done g c.args.version c.args.kind c.args.out.now c.in_ok-at.ensures c.write_length-first.ensures (rw (e.0, e.1, e.2) at c.put_keys.ensures)
