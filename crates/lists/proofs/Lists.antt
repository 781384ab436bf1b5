-- A list behind its count, as the body of a message: each answer of open_message, carried on to what the list's writer does.
use Prim.Native.Nat.{ℕ, ◌+◌, ◌<◌, ◌≤◌}
use mathlib.Core.Path.{◌≡◌}
use mathlib.Core.Bool.{Bool, true}
use mathlib.Core.List.{List, ◌++◌}
use native.Mathlib.Omega.{arith}
use lib.ListN.{length, length-append}
use borrow.Author.Tests.{lt-ltb}
use Rattle.octets.specs.Length.{encode_length}
use Rattle.octets.specs.Layout.{Layout, size, field_octets, put_all, fit_all, listed, list_of}
use Rattle.octets.specs.Area.{Laid, Written, Does, described, Wrote}
use Rattle.octets.specs.Frame.{opened, sent}
use Rattle.std.specs.Prelude.{Ok, Err, IsErrAnd}
use Rattle.octets.specs.declared.Unwritten.{Unwritten}
use Rattle.octets.proofs.Places.{both-are}
use Rattle.octets.proofs.Lengths.{length-octets-are}
use Rattle.octets.proofs.Areas.{wrote_none, wrote-more, wrote-sets, wrote-length, laid-all, open-room}
use Rattle.octets.proofs.Lists.{length-listed}
use Rattle.octets.proofs.Sends.{sent-laid, described-is}
use Rattle.tags.proofs.Entries.{sent-stopped}

module _ {A : Type 0} (L : Layout A) (f : ℕ → A) (n : ℕ) where
  pub list_length : length ((list_of L).put (listed f n)) ≡ length (encode_length n) + length (put_all L (listed f n))
  list_length = rw (length-listed f n) (length-append (encode_length n) (put_all L (listed f n)))

-- the list of n entries was handed over, each fits, and the body that is announced is theirs
pub record Ready {A : Type 0} (L : Layout A) (f : ℕ → A) (n : ℕ) (handed : Bool) (body : ℕ) : Type 0 where
  pub whole : handed ≡ true
  pub few : n < 16384
  pub fit : fit_all L (listed f n) ≡ true
  pub long : body ≡ length ((list_of L).put (listed f n))

module _ {A : Type 0} {L : Layout A} {f : ℕ → A} {n : ℕ} {b : Bool} {body : ℕ} (g : Ready L f n b body) (v k : ℕ) (old : List ℕ) where
  ready-fits : (list_of L).fits (listed f n) ≡ true
  ready-fits = rw (length-listed f n) (both-are _ _ (lt-ltb n 16384 g.few) g.fit)

  -- where the opening is not written, nothing is
  pub ready-stopped : {e : Unwritten} {r : Written} {new : List ℕ} → Does (opened v k body old) (Err e) new → IsErrAnd r (λ y. y ≡ e) → Does (described b (sent (list_of L) v k (listed f n) old) old) r new
  ready-stopped d i = described-is b _ old g.whole (sent-stopped (list_of L) v k (listed f n) old g.long ready-fits d i)

  -- behind the opening and the count
  module _ {new y : List ℕ} {p q : ℕ} (d : Does (opened v k body old) (Ok p) new) (l : Laid new p (field_octets size n) y q) where
    room : p + length (encode_length n) + length (put_all L (listed f n)) ≤ length new
    room = omega (arith, open-room v k body old new p d, list_length L f n, g.long)

    counted : Wrote new p (encode_length n) y q
    counted = wrote-more (encode_length n) (wrote_none new p) (omega (arith, room)) (rw (length-octets-are n g.few) at l)

    -- there is room for the entries
    pub ready-room : q + length (put_all L (listed f n)) ≤ length y
    ready-room = omega (arith, room, counted.next, wrote-length counted)

    -- with the entries the message is done
    pub ready-done : {z : List ℕ} {t : ℕ} → Wrote y q (put_all L (listed f n)) z t → Does (described b (sent (list_of L) v k (listed f n) old) old) (Ok t) z
    ready-done {z} {t} w =
        let x = wrote-sets (put_all L (listed f n)) counted w.holds w.next in
        let j : p + length (encode_length n ++ put_all L (listed f n)) ≤ length new = omega (arith, room, length-append (encode_length n) (put_all L (listed f n))) in
        let o : Laid new p ((list_of L).put (listed f n)) z t = rw (length-listed f n) (laid-all new p (encode_length n ++ put_all L (listed f n)) j x.holds x.next) in
        described-is b _ old g.whole (sent-laid (list_of L) v k (listed f n) old body new z p t g.long ready-fits d o)
