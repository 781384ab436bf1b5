-- Five words and the head that they are.
use Prim.Native.Nat.{ℕ}
use mathlib.Core.Path.{◌≡◌, refl}
use mathlib.Core.Bool.{Bool, true, false, not}
use mathlib.Core.List.{List}
use lib.Dec.{eqb}
use lib.ListN.{get_or}
use mir.Val.{bool_byte}
use Rattle.admission.specs.declared.Head.{Head}
use Rattle.store.specs.Model.{first_kind}
use Rattle.capi.specs.Slices.{flag, head_words}

-- an option's word
pub flag-byte : (b : Bool) → bool_byte b ≡ flag b
flag-byte true = refl
flag-byte false = refl

flag-back : (b : Bool) → not (eqb (flag b) 0) ≡ b
flag-back true = refl
flag-back false = refl

-- the head that is read from a head's words is that head
pub head-back : (l : List ℕ) (h : Head) → h.limits ≡ first_kind → l ≡ head_words h
    → ◌≡◌ {A = Head} (record { limits = first_kind; version = get_or l 0 0; allocation = not (eqb (get_or l 1 0) 0); passwords = not (eqb (get_or l 2 0) 0); count = get_or l 3 0; used = get_or l 4 0 }) h
head-back l h e q = rw (q, flag-back h.allocation, flag-back h.passwords, ← e)
