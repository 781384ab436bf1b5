-- What a read of the store tells is what the reply shows.
use Prim.Native.Nat.{ℕ, ◌^◌, ◌≤◌, ◌<◌}
use mathlib.Core.Path.{◌≡◌, refl, sym, ap, ◌∙◌}
use mathlib.Core.List.{List}
use native.Mathlib.Omega.{arith}
use lib.ListN.{length}
use Rattle.octets.specs.Area.{Written, Does}
use Rattle.octets.specs.Number.{bare}
use Rattle.octets.specs.View.{within}
use Rattle.octets.specs.declared.Access.{Access}
use Rattle.octets.specs.declared.Access.TheVariants.{Plain}
use Rattle.octets.specs.declared.Form.{Form}
use Rattle.octets.specs.declared.Port.{Port}
use Rattle.octets.specs.declared.Span.{Span}
use Rattle.octets.proofs.Spans.{span-length}
use Rattle.answers.specs.Answer.{Answer, accepted, answer, answer_sent}
use Rattle.answers.specs.Answer as b
use Rattle.admission.specs.declared.Head.{Head}
use Rattle.admission.specs.declared.Denial.{Denial}
use Rattle.std.specs.Prelude.{Ok, Err}
use Rattle.store.specs.Answers.{ReadOf}
use Rattle.store.specs.Model.{State, Shows}
use Rattle.store.specs.Steps.{Content, content, denied, read_step}
use Rattle.responder.specs.Entry.{Sent, sent_of, Serves, Denies}
use Rattle.responder.specs.Respond.{named, shown, read_done}
use Rattle.responder.proofs.Sends.{sends, version-is}
use Rattle.responder.proofs.Writable.{read-writable, writable-short}

module _ (u : State) (g : Head) (table pool : List ℕ) (s : Shows u g table pool) (x : ℕ) (p : Port) (a : Access)
    (w : Form) where
  -- denied, and not told yet
  pub read-denied : (e : Denial) (old : List ℕ) → ReadOf u x p a pool (Err e)
      → Denies (read_done u p w (x, a)) g e old old table pool
  unfolding read_done
  read-denied e old d = rw (← d.says) (record { says = rw (version-is s); area = refl; left = s })

  -- given, and so shown: by the form of the command, its tag with the six ignored bits zero
  pub read-done : (i : Span) (xs old new : List ℕ) (z : Written) (form : Form) (n : ℕ) (t : Sent)
      → ReadOf u x p a pool (Ok i) → form ≡ w → n ≡ bare x → xs ≡ within pool i → x < 2 ^ 64
      → 2048 ≤ length old → Does (answer_sent (accepted (answer g.version form (b.read ((n, Plain), xs)))) old) z new
      → t ≡ sent_of z
      → Serves (read_done u p w (x, a)) (record { head = g; sent = t }) old new table pool
  unfolding read_done
  read-done i xs old new z form n t d ef en ex l k y f =
      let q : read_step u x p a ≡ content xs = sym d.says ∙ ap content (sym ex) in
      let few : length xs ≤ 1024 = omega (
        arith,
        ap length ex,
        span-length pool i d.place.0,
        d.place.1,
        s.valid.shared.area,
      ) in
      let v : g.version ≤ 15 = omega (arith, version-is s, s.valid.low) in
      let c : Answer = accepted (answer g.version w (b.read (named x, xs))) in
      let m = read-writable g.version w x v l xs few in
      rw q (record { sends = rw (version-is s) at (sends c m (writable-short c m) k (rw (ef, en) at y) f); left = s })

-- a read leaves the unit as it was
pub read_left : (u : State) (p : Port) (w : Form) (x : ℕ) (a : Access) → u ≡ (read_done u p w (x, a)).unit
unfolding read_done
read_left u p w x a = go (read_step u x p a)
  where
    go : (c : Content) → u ≡ (shown u w x c).unit
    go (content xs) = refl
    go (denied n) = refl
