use Prim.Native.Nat.{ℕ, ◌+◌, ◌≤◌}
use mathlib.Core.Path.{◌≡◌, sym, ap, ◌∙◌}
use native.Mathlib.Omega.{arith}
use lib.ListN.{length}
use Rattle.octets.specs.Length.{encode_length}
use Rattle.octets.specs.declared.Form.{Form}
use Rattle.octets.proofs.Areas.{open-room, sent-unfit}
use Rattle.octets.proofs.Sends.{sent-long}
use Rattle.tags.specs.Entry.{form_of, lock_size}
use Rattle.resources.specs.Resource.{Grant, grant_of, allocation}
use Rattle.resources.proofs.Bodies.{length-allocation, allocation-fits, allocation-unfit}
use Rattle.octets.proofs.Lengths.{length-octets-are}
use Rattle.resources.proofs.Fields.{sent-wrote, sent-stopped, laid_then, laid-last}
use Rattle.resources.proofs.write_allocation.Goals as goal
use Rattle.resources.proofs.write_allocation.Goals.{then-not-is_mode-via-then-not-is_mode, then-not-is_mode-via-else-not-is_mode+then-n-gt2048}

-- the size of the body, as the code sums it
body-size : (g : Grant) {w f : Form} {s l : ℕ} → f ≡ w → s ≡ lock_size f → l ≡ length (encode_length (length g.initial)) → 13 + s + l + length g.initial ≡ length ((allocation w).put g)
body-size g {w} {f} e s l = rw (length-allocation w g) (omega (arith, s ∙ ap lock_size e))

pub returns-then-not-is_mode : goal.returns-then-not-is_mode
returns-then-not-is_mode c =
    let g : Grant = grant_of (c.args.tag, (c.args.mode, (c.args.size, (c.args.access, c.args.initial.now)))) in
    elim c.then-not-is_mode.branch [
      | then-not-is_mode-via-then-not-is_mode w ↦ sent-unfit _ _ _ _ _ (allocation-unfit (form_of c.args.access) g (sym c.is_mode.ensures ∙ w.if-not-is_mode.true))
      | then-not-is_mode-via-else-not-is_mode+then-n-gt2048 w ↦ sent-long _ _ _ _ _ (omega (arith, length-allocation (form_of c.args.access) g, w.if-n-gt2048.true))
    ]

pub returns-in_err-next : goal.returns-in_err-next
returns-in_err-next c =
    let g : Grant = grant_of (c.args.tag, (c.args.mode, (c.args.size, (c.args.access, c.args.initial.now)))) in
    let e = body-size g c.form_of.ensures.0 c.lock_size.ensures.0 c.length_size.ensures.0 in
    let l = rw c.form_of.ensures.0 at c.form_of.ensures.1 in
    let f = allocation-fits (form_of c.args.access) g c.ranges.tag.fits c.ranges.mode.fits (sym c.is_mode.ensures ∙ c.if-not-is_mode.false) c.ranges.size.fits l (omega arith) in
    sent-stopped _ _ _ _ _ e f c.in_err-next.ensures c.from_residual.ensures.1

pub returns : goal.returns
returns c =
    let g : Grant = grant_of (c.args.tag, (c.args.mode, (c.args.size, (c.args.access, c.args.initial.now)))) in
    let e = body-size g c.form_of.ensures.0 c.lock_size.ensures.0 c.length_size.ensures.0 in
    let l = rw c.form_of.ensures.0 at c.form_of.ensures.1 in
    let f = allocation-fits (form_of c.args.access) g c.ranges.tag.fits c.ranges.mode.fits (sym c.is_mode.ensures ∙ c.if-not-is_mode.false) c.ranges.size.fits l (omega arith) in
    let o = open-room _ _ _ _ _ _ c.in_ok-next.ensures in
    let h : c.in_ok-next.next + length ((allocation (form_of c.args.access)).put g) ≤ length c.open_message.new.out = omega (arith, o, e) in
    let n = rw (length-octets-are (length c.args.initial.now) (omega arith)) at c.write_length-next.ensures in
    sent-wrote _ _ _ _ _ e f c.in_ok-next.ensures
    (laid_then h c.write_number-next.ensures (λ h. laid_then h c.write_number-next-2.ensures (λ h. laid_then h c.write_number-next-3.ensures
    (λ h. laid_then h c.write_lock-next.ensures (λ h. laid_then h n (λ h. laid-last h c.copy.ensures))))))
