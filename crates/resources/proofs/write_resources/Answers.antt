use Prim.Native.Nat.{ℕ, ◌+◌, ◌*◌, ◌≤◌}
use mathlib.Core.Path.{◌≡◌, sym, ◌∙◌}
use mathlib.Core.List.{List}
use native.Mathlib.Omega.{arith}
use lib.ListN.{length}
use Rattle.std.specs.Prelude.{Err}
use Rattle.octets.specs.Layout.{list_of, put_all}
use Rattle.octets.specs.Frame.{sent}
use Rattle.octets.specs.Area.{Laid, Wrote, Written, Does}
use Rattle.octets.specs.declared.Unwritten.TheVariants.{Refused}
use Rattle.octets.proofs.Areas.{open-room, sent-unfit, wrote-length}
use Rattle.octets.proofs.Sends.{described-is, described-not, sent-long}
use Rattle.octets.specs.Length.{encode_length}
use Rattle.octets.proofs.Lengths.{length-octets-are}
use Rattle.octets.proofs.Lists.{length-listed}
use Rattle.resources.specs.declared.Room.{Room}
use Rattle.resources.specs.declared.Resource.{Resource}
use Rattle.resources.specs.Resource.{room, resource, resources, resource_at, resources_of, resources_sent}
use Rattle.resources.proofs.Fields.{sent-wrote, sent-stopped, laid-last, wrote_then}
use Rattle.resources.proofs.Bodies.{length-room, apart, are-alongside, length-resources, resources-unfit, room_fits, resources-fit}
use Rattle.resources.proofs.write_resources.Goals as goal
use Rattle.resources.proofs.write_resources.Goals.{then-modes-n-via-then-modes-n, then-modes-n-via-else-modes-n+then-held-n, then-modes-n-via-else-modes-n+else-held-n+then-sizes-n}
use Rattle.resources.proofs.write_resources.Goals.{then-not-are_modes-via-then-not-are_modes, then-not-are_modes-via-else-not-are_modes+then-n-gt2048}

module _ (version kind : ℕ) (x : Room) (tags modes held sizes old : List ℕ) where
  -- slices that are not all of one length describe no message
  untold : (length modes ≡ length tags → length held ≡ length tags → length sizes ≡ length tags → ⊥) → Does (resources_sent version kind x tags modes held sizes old) (Err Refused) old
  unfolding resources_sent
  untold h = described-not _ _ _ (apart tags modes held sizes h)

  -- slices of one length describe one
  told : length modes ≡ length tags → length held ≡ length tags → length sizes ≡ length tags → {r : Written} {new : List ℕ}
      → Does (sent resources version kind (x, resources_of tags modes held sizes) old) r new → Does (resources_sent version kind x tags modes held sizes old) r new
  unfolding resources_sent
  told m h k d = described-is _ _ _ (are-alongside tags modes held sizes m h k) d

pub returns-then-modes-n : goal.returns-then-modes-n
returns-then-modes-n c =
    elim c.then-modes-n.branch [
      | then-modes-n-via-then-modes-n w ↦ untold _ _ _ _ _ _ _ _ (λ m h k. w.if-modes-n.true m)
      | then-modes-n-via-else-modes-n+then-held-n w ↦ untold _ _ _ _ _ _ _ _ (λ m h k. w.if-held-n.true h)
      | then-modes-n-via-else-modes-n+else-held-n+then-sizes-n w ↦ untold _ _ _ _ _ _ _ _ (λ m h k. w.if-sizes-n.true k)
    ]

pub returns-then-not-are_modes : goal.returns-then-not-are_modes
returns-then-not-are_modes c =
    let l = length-resources c.args.tags.now c.args.modes.now c.args.held.now c.args.sizes.now c.args.x in
    told _ _ _ _ _ _ _ _ c.if-modes-n.false c.if-held-n.false c.if-sizes-n.false
    (elim c.then-not-are_modes.branch [
      | then-not-are_modes-via-then-not-are_modes w ↦
          sent-unfit _ _ _ _ _ (resources-unfit c.args.tags.now c.args.modes.now c.args.held.now c.args.sizes.now c.args.x c.if-modes-n.false (sym c.are_modes.ensures ∙ w.if-not-are_modes.true))
      | then-not-are_modes-via-else-not-are_modes+then-n-gt2048 w ↦ sent-long _ _ _ _ _ (omega (arith, l, w.if-n-gt2048.true))
    ])

pub returns-in_err-next : goal.returns-in_err-next
returns-in_err-next c =
    let l = length-resources c.args.tags.now c.args.modes.now c.args.held.now c.args.sizes.now c.args.x in
    let r = room_fits c.args.x (omega arith) (omega arith) (omega arith) (omega arith) (omega arith) (omega arith) in
    let f = resources-fit c.args.tags.now c.args.modes.now c.args.held.now c.args.sizes.now c.args.x r (omega arith) c.if-modes-n.false (sym c.are_modes.ensures ∙ c.if-not-are_modes.false)
    (λ i. (c.type_inv.tags i).fits) (λ i. (c.type_inv.modes i).fits) (λ i. (c.type_inv.held i).fits) (λ i. (c.type_inv.sizes i).fits) in
    told _ _ _ _ _ _ _ _ c.if-modes-n.false c.if-held-n.false c.if-sizes-n.false (sent-stopped _ _ _ _ _ (rw l (omega arith)) f c.in_err-next.ensures c.from_residual.ensures.1)

pub put_room-next-requires : goal.put_room-next-requires
put_room-next-requires c = omega (arith, open-room _ _ _ _ _ _ c.in_ok-next.ensures)

-- the count stands behind the room, and behind it there is room for the entries
counted : (x : Room) (r : List Resource) {old new end : List ℕ} {n at p q : ℕ} → length r ≡ n → at + (18 + length (encode_length n) + 17 * n) ≤ length old
    → Wrote old at (room.put x) new p → Laid new p (encode_length n) end q → Wrote new p (encode_length (length r)) end q × (q + 17 * n ≤ length end)
counted x r {new = new} {end = end} {n = n} {p = p} {q = q} e h w l =
    let v : Wrote new p (encode_length n) end q = laid-last (omega (arith, w.next, wrote-length w, length-room x)) l in
    (rw e v, omega (arith, w.next, wrote-length w, length-room x, v.next, wrote-length v))

pub put_resources-requires : goal.put_resources-requires
put_resources-requires c =
    let t = c.args.tags.now in
    let r : List Resource = resources_of t c.args.modes.now c.args.held.now c.args.sizes.now in
    let o = open-room _ _ _ _ _ _ c.in_ok-next.ensures in
    let k = counted c.args.x r (length-listed (resource_at t c.args.modes.now c.args.held.now c.args.sizes.now) (length t)) (omega (arith, o)) c.put_room-next.ensures
    (rw (length-octets-are (length t) (omega arith)) at c.write_length-next.ensures) in
    record { modes_too = c.if-modes-n.false; held_too = c.if-held-n.false; sizes_too = c.if-sizes-n.false; room = k.1 }

pub returns : goal.returns
returns c =
    let l = length-resources c.args.tags.now c.args.modes.now c.args.held.now c.args.sizes.now c.args.x in
    let r = room_fits c.args.x (omega arith) (omega arith) (omega arith) (omega arith) (omega arith) (omega arith) in
    let f = resources-fit c.args.tags.now c.args.modes.now c.args.held.now c.args.sizes.now c.args.x r (omega arith) c.if-modes-n.false (sym c.are_modes.ensures ∙ c.if-not-are_modes.false)
    (λ i. (c.type_inv.tags i).fits) (λ i. (c.type_inv.modes i).fits) (λ i. (c.type_inv.held i).fits) (λ i. (c.type_inv.sizes i).fits) in
    let t = c.args.tags.now in
    let a : List Resource = resources_of t c.args.modes.now c.args.held.now c.args.sizes.now in
    let o = open-room _ _ _ _ _ _ c.in_ok-next.ensures in
    let k = counted c.args.x a (length-listed (resource_at t c.args.modes.now c.args.held.now c.args.sizes.now) (length t)) (omega (arith, o)) c.put_room-next.ensures
    (rw (length-octets-are (length t) (omega arith)) at c.write_length-next.ensures) in
    let v = wrote_then {w = put_all resource a} k.0 c.put_resources.ensures in
    let w = wrote_then {w = (list_of resource).put a} c.put_room-next.ensures v in
    told _ _ _ _ _ _ _ _ c.if-modes-n.false c.if-held-n.false c.if-sizes-n.false (sent-wrote _ _ _ _ _ (rw l (omega arith)) f c.in_ok-next.ensures w)
