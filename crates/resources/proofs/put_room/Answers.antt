use Prim.Native.Nat.{◌+◌, ◌≤◌}
use lib.ListN.{length}
use Rattle.resources.specs.Resource.{room}
use Rattle.resources.proofs.Bodies.{length-room}
use Rattle.resources.proofs.Fields.{laid_then, laid-last}
use Rattle.resources.proofs.put_room.Goals as goal

pub returns : goal.returns
returns c =
    let h : c.args.at + length (room.put c.args.x) ≤ length c.args.out.now = rw (length-room c.args.x) c.requires in
    laid_then h c.write_number-next.ensures (λ h. laid_then h c.write_number-next-2.ensures (λ h. laid_then h c.write_number-next-3.ensures
    (λ h. laid_then h c.write_number-next-4.ensures (λ h. laid_then h c.write_number-next-5.ensures (λ h. laid-last h c.write_number.ensures)))))
