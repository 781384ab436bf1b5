use mathlib.Core.Path.{ap, ◌∙◌}
use Rattle.std.specs.Prelude.{Err}
use Rattle.std.proofs.lemmas.Result.{err_from_is_err_and}
use Rattle.lists.specs.Handed.{memories_sent}
use Rattle.lists.proofs.Lists.{ready-stopped, ready-room, ready-done}
use Rattle.lists.proofs.Handed.{Words, memories-ready, passwords-apart, memories-apart, unmeasured}
use Rattle.lists.proofs.write_memories.Goals as goal

pub returns-in_err-keys : goal.returns-in_err-keys
returns-in_err-keys c =
    let r = err_from_is_err_and c.from_residual.result c.from_residual.ensures.1 in
    let e = c.in_err-keys.ensures in
    let h = passwords-apart c.args.form c.args.tags.now c.args.passwords.now c.args.starts.now c.args.lengths.now c.args.src.now e.1 in
    rw (r.1 ∙ ap Err (r.2 ∙ e.0)) (memories-apart c.args.form c.args.tags.now c.args.passwords.now c.args.starts.now c.args.lengths.now c.args.src.now h c.args.version c.args.kind c.args.out.now)

pub returns-in_err-memories : goal.returns-in_err-memories
returns-in_err-memories c =
    let r = err_from_is_err_and c.from_residual-in_err-memories.result c.from_residual-in_err-memories.ensures.1 in
    let e = c.in_ok-keys.ensures in
    let f = c.in_err-memories.ensures in
    let h = rw (e.0, e.1, e.2) at f.1 in
    rw (r.1 ∙ ap Err (r.2 ∙ f.0)) (memories-apart c.args.form c.args.tags.now c.args.passwords.now c.args.starts.now c.args.lengths.now c.args.src.now h c.args.version c.args.kind c.args.out.now)

pub returns-in_err-size : goal.returns-in_err-size
returns-in_err-size c =
    let r = err_from_is_err_and c.from_residual-in_err-size.result c.from_residual-in_err-size.ensures.1 in
    let v = rw c.in_err-size.ensures.ok_part at c.in_err-size.ensures.value in
    let e = c.in_ok-keys.ensures in
    let f = c.in_ok-memories.ensures in
    let t = rw (e.0, e.1, e.2) at c.in_ok-keys.keys.agree in
    let p = rw (f.0, f.1, e.1) at c.in_ok-memories.memories.starts_agree in
    let q = rw (f.0, f.2, e.1) at c.in_ok-memories.memories.lengths_agree in
    let z = rw (c.in_err-size.ensures.ok_part, f.0, f.1, f.2, f.3, e.0, e.1, e.2) at c.sum_memories.ensures in
    rw (r.1 ∙ ap Err r.2 ∙ v) (unmeasured c.args.form c.args.tags.now c.args.passwords.now c.args.starts.now c.args.lengths.now c.args.src.now t p q c.args.version c.args.kind c.args.out.now z)

pub returns-in_err-at : goal.returns-in_err-at
unfolding memories_sent
returns-in_err-at c =
    let e = c.in_ok-keys.ensures in
    let f = c.in_ok-memories.ensures in
    let o : Words c.args.tags.now = λ k. (c.type_inv.tags k).fits in
    let u : Words c.args.passwords.now = λ k. (c.type_inv.passwords k).fits in
    let t = rw (e.0, e.1, e.2) at c.in_ok-keys.keys.agree in
    let p = rw (f.0, f.1, e.1) at c.in_ok-memories.memories.starts_agree in
    let q = rw (f.0, f.2, e.1) at c.in_ok-memories.memories.lengths_agree in
    let z = rw (c.in_ok-size.ensures.ok_part, f.0, f.1, f.2, f.3, e.0, e.1, e.2) at c.sum_memories.ensures in
    let g = memories-ready c.args.form c.args.tags.now c.args.passwords.now c.args.starts.now c.args.lengths.now c.args.src.now t p q o u c.length_size.ensures.0 z in
    ready-stopped g c.args.version c.args.kind c.args.out.now c.in_err-at.ensures c.from_residual-in_err-at.ensures.1

pub put_memories-requires : goal.put_memories-requires
put_memories-requires c =
    let e = c.in_ok-keys.ensures in
    let f = c.in_ok-memories.ensures in
    let o : Words c.args.tags.now = λ k. (c.type_inv.tags k).fits in
    let u : Words c.args.passwords.now = λ k. (c.type_inv.passwords k).fits in
    let t = rw (e.0, e.1, e.2) at c.in_ok-keys.keys.agree in
    let p = rw (f.0, f.1, e.1) at c.in_ok-memories.memories.starts_agree in
    let q = rw (f.0, f.2, e.1) at c.in_ok-memories.memories.lengths_agree in
    let z = rw (c.in_ok-size.ensures.ok_part, f.0, f.1, f.2, f.3, e.0, e.1, e.2) at c.sum_memories.ensures in
    let g = memories-ready c.args.form c.args.tags.now c.args.passwords.now c.args.starts.now c.args.lengths.now c.args.src.now t p q o u c.length_size.ensures.0 z in
    rw (f.0, f.1, f.2, f.3, e.0, e.1, e.2) (g.fit, ready-room g c.args.version c.args.kind c.args.out.now c.in_ok-at.ensures c.write_length-first.ensures)

pub returns : goal.returns
unfolding memories_sent
returns c =
    let e = c.in_ok-keys.ensures in
    let f = c.in_ok-memories.ensures in
    let o : Words c.args.tags.now = λ k. (c.type_inv.tags k).fits in
    let u : Words c.args.passwords.now = λ k. (c.type_inv.passwords k).fits in
    let t = rw (e.0, e.1, e.2) at c.in_ok-keys.keys.agree in
    let p = rw (f.0, f.1, e.1) at c.in_ok-memories.memories.starts_agree in
    let q = rw (f.0, f.2, e.1) at c.in_ok-memories.memories.lengths_agree in
    let z = rw (c.in_ok-size.ensures.ok_part, f.0, f.1, f.2, f.3, e.0, e.1, e.2) at c.sum_memories.ensures in
    let g = memories-ready c.args.form c.args.tags.now c.args.passwords.now c.args.starts.now c.args.lengths.now c.args.src.now t p q o u c.length_size.ensures.0 z in
    ready-done g c.args.version c.args.kind c.args.out.now c.in_ok-at.ensures c.write_length-first.ensures (rw (f.0, f.1, f.2, f.3, e.0, e.1, e.2) at c.put_memories.ensures)
