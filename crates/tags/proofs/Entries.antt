-- Tags and memory data: they read back, how long they are, and which values fit.
use Prim.Native.Nat.{ℕ, ◌+◌, ◌^◌, ◌<◌, ◌≤◌}
use mathlib.Core.Path.{◌≡◌, refl, sym, ◌∙◌}
use mathlib.Core.Bool.{Bool, true, false, ◌&&◌}
use mathlib.Core.List.{List, ◌++◌}
use native.Mathlib.Omega.{arith}
use lib.ListN.{length, drop, length-append}
use borrow.Author.Tests.{lt-ltb, le-ltb, ltb-true}
use Rattle.octets.specs.Reading.{ok, and_then, Octets}
use Rattle.octets.specs.Length.{encode_length}
use Rattle.octets.specs.Number.{octets, decode_number}
use Rattle.std.specs.Prelude.{Ok, Err, IsErrAnd}
use Rattle.octets.specs.Layout.{Layout, numeral, data'}
use Rattle.octets.specs.Area.{Wrote, Written, Does}
use Rattle.octets.specs.Frame.{opened, sent}
use Rattle.octets.specs.declared.Unwritten.{Unwritten}
use Rattle.octets.specs.declared.Unwritten.TheVariants.{Refused, NoRoom}
use Rattle.octets.specs.declared.Access.{Access}
use Rattle.octets.specs.declared.Access.TheVariants as a
use Rattle.octets.specs.declared.Form.{Form}
use Rattle.octets.specs.declared.Form.TheVariants as f
use Rattle.octets.proofs.Places.{both-are, false-true, ok-val, ok-rest, went, here_end}
use Rattle.octets.proofs.Numbers.{length-octets, number-there, number-back}
use Rattle.octets.proofs.Areas.{sent-refused, sent-short}
use Rattle.octets.proofs.Lawful.{Lawful, numeral-lawful, data-lawful, seq-lawful}
use Rattle.tags.specs.Entry.{form_of, is_plain, secret, is_password, lock_size, lock, Keyed, Held, key, memory}

-- ---- the round trips: what is written reads back, and only that is read

-- a plain access reads back from no octets
plain-there : (x : Access) (r : List ℕ) → is_plain x ≡ true → ok a.Plain r ≡ ok x r
plain-there a.Plain r h = refl
plain-there (a.Password p) r h = absurd (false-true h)

-- a password reads back from its eight octets
password-there : (x : Access) (r : List ℕ) → is_password x ≡ true → and_then (decode_number 8 (octets 8 (secret x) ++ r)) (λ p t. ok (a.Password p) t) ≡ ok x r
password-there a.Plain r h = absurd (false-true h)
password-there (a.Password p) r h = rw (number-there 8 p r (ltb-true _ _ h))

-- and is read from those only
password-back : (l t r : List ℕ) (p : ℕ) (x : Access) → Octets l → decode_number 8 l ≡ ok p t → ok (a.Password p) t ≡ ok x r → (l ≡ octets 8 (secret x) ++ r) × (is_password x ≡ true)
password-back l t r p x o e g =
    let y = number-back 8 l p t o e in
    rw (← ok-val g, ← ok-rest g) (y.0, lt-ltb p (256 ^ 8) y.1)

pub lock-lawful : (w : Form) → Lawful (lock w)
lock-lawful f.Plain = record { there = plain-there; back = λ l x r o e. rw (← ok-val e) (ok-rest e, refl) }
lock-lawful f.Password = record {
  there = password-there;
  back = λ l x r o e.
      let w = went (decode_number 8 l) (λ p t. ok (a.Password p) t) x r e in
      password-back l w.rest r w.val x o w.first w.then;
}

pub key-lawful : (w : Form) → Lawful (key w)
key-lawful w = seq-lawful (numeral 8) (lock w) (numeral-lawful 8) (lock-lawful w)

pub memory-lawful : (w : Form) → Lawful (memory w)
memory-lawful w = seq-lawful (key w) data' (key-lawful w) data-lawful

-- ---- lengths

pub length-lock : (w : Form) (x : Access) → length ((lock w).put x) ≡ lock_size w
length-lock f.Plain x = refl
length-lock f.Password x = length-octets 8 (secret x)

pub length-key : (w : Form) (k : Keyed) → length ((key w).put k) ≡ 8 + lock_size w
length-key w k = rw (length-append (octets 8 k.0) ((lock w).put k.1), length-octets 8 k.0, length-lock w k.1)

pub length-memory : (w : Form) (h : Held) → length ((memory w).put h) ≡ 8 + lock_size w + length (encode_length (length h.1)) + length h.1
length-memory w h = simp (length-append, length-octets, length-lock) (omega arith)

-- ---- which values fit

-- a tag of 64 bits and a password that fits
pub key_fits : (w : Form) (t : ℕ) (x : Access) → t < 256 ^ 8 → (lock w).fits x ≡ true → (key w).fits (t, x) ≡ true
key_fits w t x h k = both-are _ _ (lt-ltb t (256 ^ 8) h) k

-- data whose length has a form
pub memory-fits : (w : Form) (k : Keyed) (d : List ℕ) → (key w).fits k ≡ true → length d < 16384 → (memory w).fits (k, d) ≡ true
memory-fits w k d h j = both-are _ _ h (lt-ltb (length d) 16384 j)

-- data whose length has no form does not fit
pub memory-unfit : (w : Form) (k : Keyed) (d : List ℕ) → 16384 ≤ length d → (memory w).fits (k, d) ≡ false
memory-unfit w k d h = rw (le-ltb (length d) 16384 h) (last ((key w).fits k))
  where
    last : (b : Bool) → (b && false) ≡ false
    last true = refl
    last false = refl

-- ---- what form_of, lock_size and length_size tell of an entry that is to be written

module _ (t : ℕ) (x : Access) {w : Form} (g : (w ≡ form_of x) × ((lock w).fits x ≡ true)) where
  -- a tag and its password fit their fields
  pub keyed-fits : t < 256 ^ 8 → (key (form_of x)).fits (t, x) ≡ true
  keyed-fits h = key_fits (form_of x) t x h (rw g.0 at g.1)

  -- and take 8 octets and the password's
  pub keyed-size : {n : ℕ} → (n ≡ lock_size w) × (n ≤ 8) → 8 + n ≡ length ((key (form_of x)).put (t, x))
  keyed-size n = rw (length-key (form_of x) (t, x), ← g.0, n.0)

  -- memory data fits where its length has a form
  pub held_fits : (d : List ℕ) → t < 256 ^ 8 → length d < 16384 → (memory (form_of x)).fits ((t, x), d) ≡ true
  held_fits d h j = memory-fits (form_of x) (t, x) d (keyed-fits h) j

  -- and takes the octets of its length and its own besides
  pub held-size : (d : List ℕ) {n m : ℕ} → (n ≡ lock_size w) × (n ≤ 8) → (m ≡ length (encode_length (length d))) × (m ≤ 2) → 8 + n + m + length d ≡ length ((memory (form_of x)).put ((t, x), d))
  held-size d n m = rw (length-memory (form_of x) ((t, x), d), ← g.0, n.0, m.0)

-- ---- a field that is written at a place that is computed, not the one that the field before it handed on

pub wrote-to : {old v x : List ℕ} {at p : ℕ} (q : ℕ) → Wrote old at v x p → q ≡ at + length v → Wrote old at v x q
wrote-to q w e = record { holds = w.holds; next = e }

-- ---- a place past the octets is their end

pub past_end : (s : List ℕ) (at : ℕ) → length s < at → drop (length s) s ≡ drop at s
past_end s at h = here_end s (length s) (omega arith) ∙ sym (here_end s at (omega arith))

-- ---- a message that cannot be opened is not written, for the same reason

module _ {A : Type 0} (L : Layout A) (v k : ℕ) (a : A) (old : List ℕ) {n : ℕ} {new : List ℕ} where
  pub sent-stopped : {e : Unwritten} {r : Written} → n ≡ length (L.put a) → L.fits a ≡ true → Does (opened v k n old) (Err e) new → IsErrAnd r (λ y. y ≡ e) → Does (sent L v k a old) r new
  sent-stopped {e} {r} h g d i = go e r d i
    where
      go : (e : Unwritten) (r : Written) → Does (opened v k n old) (Err e) new → IsErrAnd r (λ y. y ≡ e) → Does (sent L v k a old) r new
      go e (Ok q) d i = absurd i
      go Refused (Err y) d i = rw i (sent-refused L v k a old n new h d)
      go NoRoom (Err y) d i = rw i (sent-short L v k a old n new h g d)
