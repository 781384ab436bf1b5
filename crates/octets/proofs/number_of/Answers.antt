use mathlib.Core.Path.{◌≡◌, sym, ◌∙◌}
use mathlib.Core.List.{List}
use Prim.Native.Nat.{ℕ, ◌-◌}
use borrow.Rule.Slice.PartMut.{put_mid, same_len_mid}
use lib.ListN.{length, replicate}
use Rattle.octets.specs.Number.{number}
use Rattle.octets.specs.Reading.{Octets}
use Rattle.octets.proofs.Numbers.{number-worth, number_lt, at-end-of-zeros}
use Rattle.octets.proofs.number_of.Goals as goal

pub returns : goal.returns
returns c =
    let s = c.args.s.now in
    let n = length s in
    let a : List ℕ = put_mid (8 - n) (8 - (8 - n)) (replicate 8 0) c.copy_from_slice.new.self in
    let l : length a ≡ 8 = same_len_mid (8 - n) (8 - (8 - n)) (replicate 8 0) c.copy_from_slice.new.self c.copy_from_slice.ensures.len in
    let e : c.from_be_bytes.result ≡ number a = c.from_be_bytes.ensures ∙ sym (number-worth a l) in
    let o : Octets s = λ k. (c.type_inv.s k).fits in
    let r : c.from_be_bytes.result ≡ number s = rw c.copy_from_slice.ensures.after at e ∙ at-end-of-zeros s c.requires in
    (r, rw r (number_lt s o))
