use mathlib.Core.Path.{◌≡◌, ◌∙◌}
use Prim.Native.Nat.{◌+◌, ◌*◌, ◌≤◌, ◌%◌}
use native.Mathlib.Omega.{arith}
use lib.ListN.{length, length-set}
use Rattle.octets.proofs.Areas.{opened-version, opened-long, opened-short, opened-done, length-opening, opening-laid}
use Rattle.octets.specs.Frame.{opening}
use Rattle.octets.proofs.open_message.Goals as goal

pub returns-then-version-gt15 : goal.returns-then-version-gt15
returns-then-version-gt15 c = opened-version c.args.version c.args.kind c.args.body c.args.out.now (omega arith)

pub returns-then-body-gt2042 : goal.returns-then-body-gt2042
returns-then-body-gt2042 c = opened-long c.args.version c.args.kind c.args.body c.args.out.now (omega arith)

pub returns-then-out-start : goal.returns-then-out-start
returns-then-out-start c =
    let l = length-opening c.args.version c.args.kind c.args.body in
    opened-short c.args.version c.args.kind c.args.body c.args.out.now (omega arith) (omega arith) (omega arith)

pub bounds-out-1 : goal.bounds-out-1
bounds-out-1 c = simp length-set (omega arith)

pub bounds-out-2 : goal.bounds-out-2
bounds-out-2 c = simp length-set (omega arith)

pub bounds-out-3 : goal.bounds-out-3
bounds-out-3 c = simp length-set (omega arith)

pub shape_of-out : goal.shape_of-out
shape_of-out c = c.write_length.auto.out ∙ simp length-set

pub returns : goal.returns
returns c =
    let l = length-opening c.args.version c.args.kind c.args.body in
    let e : c.args.version * 16 % 256 ≡ c.args.version * 16 = omega arith in
    let h : length (opening c.args.version c.args.kind c.args.body) + c.args.body ≤ length c.args.out.now = omega arith in
    opened-done c.args.version c.args.kind c.args.body c.args.out.now (omega arith) (omega arith) (4 + c.length_size-start.result) c.write_length.new.out h (omega arith)
    (opening-laid c.args.version c.args.kind c.args.body c.write_length.result c.args.out.now _ _ (omega arith) h (rw e) c.write_length.ensures)
