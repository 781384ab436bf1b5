use mathlib.Core.List.{List}
use Prim.Native.Nat.{ℕ, ◌+◌}
use native.Mathlib.Omega.{arith}
use Rattle.octets.specs.Number.{octets}
use Rattle.octets.proofs.Numbers.{length-octets}
use Rattle.octets.proofs.Areas.{laid-all, laid-not, wrote_none, wrote-more}
use Rattle.tags.specs.Entry.{form_of, lock, key}
use Rattle.tags.proofs.Entries.{length-key, length-lock, keyed-size, wrote-to}
use Rattle.tags.proofs.put_key.Goals as goal

pub returns-then-out-at : goal.returns-then-out-at
returns-then-out-at c =
    let e = keyed-size c.args.tag c.args.access c.form_of.ensures c.lock_size-size.ensures in
    laid-not c.args.out.now c.args.at ((key (form_of c.args.access)).put (c.args.tag, c.args.access)) (omega arith)

pub returns-then-out-at-2 : goal.returns-then-out-at-2
returns-then-out-at-2 c =
    let e = keyed-size c.args.tag c.args.access c.form_of.ensures c.lock_size-size.ensures in
    laid-not c.args.out.now c.args.at ((key (form_of c.args.access)).put (c.args.tag, c.args.access)) (omega arith)

pub returns : goal.returns
returns c =
    let v : List ℕ = (key (form_of c.args.access)).put (c.args.tag, c.args.access) in
    let e = keyed-size c.args.tag c.args.access c.form_of.ensures c.lock_size-size.ensures in
    let n = length-octets 8 c.args.tag in
    let l = length-key (form_of c.args.access) (c.args.tag, c.args.access) in
    let m = length-lock (form_of c.args.access) c.args.access in
    let t = wrote-more (octets 8 c.args.tag) (wrote_none c.args.out.now c.args.at) (omega arith) c.write_number.ensures in
    let p = wrote-more ((lock (form_of c.args.access)).put c.args.access) (wrote-to (c.args.at + 8) t (omega arith)) (omega arith) c.write_lock.ensures in
    laid-all c.args.out.now c.args.at v (omega arith) p.holds (omega arith)
