-- Each promise of this crate leaves one outcome: any two that it allows are equal.
-- The promises of lock_size and form_of are themselves equations for the result. Those of write_lock, put_key and put_memory are `Laid`, and those of write_key and
-- write_memory are `Does`: laid-unique and does-unique of octets speak of them.
use Prim.Native.Nat.{ℕ}
use mathlib.Core.Path.{◌≡◌, sym, ap, ◌∙◌}
use mathlib.Core.List.{List}
use Rattle.octets.specs.View.{Reading}
use Rattle.octets.specs.declared.Access.{Access}
use Rattle.octets.specs.declared.Form.{Form}
use Rattle.octets.proofs.Spans.{span_same}
use Rattle.octets.proofs.Unique.{reads-unique}
use Rattle.tags.specs.Entry.{Held}
use Rattle.tags.specs.View.{LockAt, KeyAt, MemoryAt}
use Rattle.tags.specs.declared.Key.{Key}
use Rattle.tags.specs.declared.Memory.{Memory}

module _ {s : List ℕ} where
  -- read_lock: one access and one next place, or one fault
  pub lock-unique : (at : ℕ) (w : Form) {r t : Reading Access} → LockAt s at w r → LockAt s at w t → r ≡ t
  lock-unique at w p q = reads-unique (λ a h. h) (λ a b h k n e. e) p q

  -- read_key: one access, one tag and one next place, or one fault
  pub key-unique : (at : ℕ) (w : Form) {r t : Reading Key} → KeyAt s at w r → KeyAt s at w t → r ≡ t
  key-unique at w p q = reads-unique (λ a h. h) (λ a b h k n e i. record { access = (e i).1; tag = (e i).0 }) p q

  -- read_memory: one access, one tag, one span and one next place, or one fault
  pub memory-unique : (at : ℕ) (w : Form) {r t : Reading Memory} → MemoryAt s at w r → MemoryAt s at w t → r ≡ t
  memory-unique at w p q =
      reads-unique
      (λ a h. h.1)
      (λ a b h k n e.
      let d = span_same s a.value.span b.value.span h.0 (k.0 ∙ sym n) h.1 (ap (λ (x : Held). x.1) e) in
      λ i. record { access = (e i).0.1; tag = (e i).0.0; span = d i })
      p q
