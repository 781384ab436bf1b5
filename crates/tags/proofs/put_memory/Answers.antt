use mathlib.Core.List.{List, ◌++◌, append_assoc}
use Prim.Native.Nat.{ℕ, ◌+◌}
use native.Mathlib.Omega.{arith}
use lib.ListN.{length, length-append}
use Rattle.octets.specs.Length.{encode_length}
use Rattle.octets.proofs.Lengths.{length-octets-are}
use Rattle.octets.proofs.Areas.{laid-all, laid-not, laid_none, wrote_none, wrote-more}
use Rattle.tags.specs.Entry.{form_of, key, memory}
use Rattle.tags.proofs.Entries.{length-key, length-memory, memory-unfit, keyed-size, held_fits, held-size, wrote-to}
use Rattle.tags.proofs.put_memory.Goals as goal

pub returns-then-n-ge16384 : goal.returns-then-n-ge16384
returns-then-n-ge16384 c =
    rw (memory-unfit (form_of c.args.access) (c.args.tag, c.args.access) c.args.src.now c.if-n-ge16384.true) (laid_none c.args.out.now c.args.at)

pub returns-then-out-at : goal.returns-then-out-at
returns-then-out-at c =
    let m = held_fits c.args.tag c.args.access c.form_of.ensures c.args.src.now c.ranges.tag.fits (omega arith) in
    let e = held-size c.args.tag c.args.access c.form_of.ensures c.args.src.now c.lock_size.ensures c.length_size.ensures in
    rw m (laid-not c.args.out.now c.args.at ((memory (form_of c.args.access)).put ((c.args.tag, c.args.access), c.args.src.now)) (omega arith))

pub returns-then-out-at-2 : goal.returns-then-out-at-2
returns-then-out-at-2 c =
    let m = held_fits c.args.tag c.args.access c.form_of.ensures c.args.src.now c.ranges.tag.fits (omega arith) in
    let e = held-size c.args.tag c.args.access c.form_of.ensures c.args.src.now c.lock_size.ensures c.length_size.ensures in
    rw m (laid-not c.args.out.now c.args.at ((memory (form_of c.args.access)).put ((c.args.tag, c.args.access), c.args.src.now)) (omega arith))

pub returns : goal.returns
returns c =
    let m = held_fits c.args.tag c.args.access c.form_of.ensures c.args.src.now c.ranges.tag.fits (omega arith) in
    let e = held-size c.args.tag c.args.access c.form_of.ensures c.args.src.now c.lock_size.ensures c.length_size.ensures in
    let f = keyed-size c.args.tag c.args.access c.form_of-2.ensures c.lock_size-2.ensures in
    let k : List ℕ = (key (form_of c.args.access)).put (c.args.tag, c.args.access) in
    let n : List ℕ = encode_length (length c.args.src.now) in
    let j = length-key (form_of c.args.access) (c.args.tag, c.args.access) in
    let l = length-memory (form_of c.args.access) ((c.args.tag, c.args.access), c.args.src.now) in
    let named : ℕ = c.args.at + 8 + c.lock_size-2.result in
    let ended : ℕ = named + c.length_size-2.result in
    let w = wrote-more k (wrote_none c.args.out.now c.args.at) (omega arith) c.put_key.ensures in
    let x = wrote-more n (wrote-to named w (omega arith)) (omega arith) (rw (length-octets-are (length c.args.src.now) (omega arith)) at c.write_length.ensures) in
    let z = wrote-to ended x (rw (length-append k n) (omega arith)) in
    let y = rw (append_assoc k n c.args.src.now) at (wrote-more c.args.src.now z (rw (length-append k n) (omega arith)) c.copy.ensures) in
    rw m (laid-all c.args.out.now c.args.at (k ++ (n ++ c.args.src.now)) (omega arith) y.holds (omega arith))
