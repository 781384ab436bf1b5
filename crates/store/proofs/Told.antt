-- What a verdict tells of the unit that gave it, and of the unit that a step leaves. The laws of admission, in the words of a unit's tags.
use Prim.Native.Nat.{ℕ, ◌≤◌}
use mathlib.Core.Path.{◌≡◌, refl, sym, ap, ◌∙◌}
use mathlib.Core.List.{List}
use native.Mathlib.Omega.{arith}
use Rattle.octets.specs.declared.Access.{Access}
use Rattle.octets.specs.declared.Port.{Port}
use Rattle.admission.specs.Admission.{admission}
use Rattle.admission.specs.Want.{Want, Allocate, Fit, Write}
use Rattle.admission.specs.Want as k
use Rattle.admission.specs.declared.Attributes.{Attributes}
use Rattle.admission.specs.Denial.{Verdict, Allowed, Denied}
use Rattle.admission.proofs.Admitted
use Rattle.rows.specs.Keyed.{Maybe, nowhere, here}
use Rattle.store.specs.Model.{Tag, State, holding, head_of}
use Rattle.store.specs.Steps.{registered, known_of, verdict, acted}

-- ---- of the unit that is left

-- what holds of the unit as it was, and of it with other tags if that was allowed, holds of what is left
pub left : (P : State → Type 0) (u : State) (v : Verdict) (m : List Tag) → P u → (v ≡ Allowed → P (holding u m)) → P (acted u v m).unit
left P u Allowed m h f = f refl
left P u (Denied d) m h f = h

-- the answer is the verdict
pub answer-is : (u : State) (v : Verdict) (m : List Tag) → (acted u v m).answer ≡ v
answer-is u Allowed m = refl
answer-is u (Denied d) m = refl

-- a verdict is not both
not-both : {d : ℕ} → Allowed ≡ Denied d → ⊥
not-both e = let z : ◌≡◌ {A = ℕ} 0 1 = cc in omega arith

-- what was allowed is done
pub done : (u : State) (v : Verdict) (m : List Tag) → (acted u v m).answer ≡ Allowed → (acted u v m).unit ≡ holding u m
done u Allowed m e = refl
done u (Denied d) m e = absurd (not-both (sym e))

-- what was denied is not
pub kept : (u : State) (v : Verdict) (m : List Tag) (d : ℕ) → (acted u v m).answer ≡ Denied d → (acted u v m).unit ≡ u
kept u Allowed m d e = absurd (not-both e)
kept u (Denied c) m d e = refl

-- ---- of the unit as it was

-- the tag x is registered
pub record There (u : State) (x : ℕ) : Type 0 where
  pub tag : Tag
  pub is : registered u x ≡ here tag

-- there is none, and there is room for one of this size
pub record Room (u : State) (x size : ℕ) : Type 0 where
  pub new : registered u x ≡ nowhere
  pub space : Admitted.Space (head_of u) size

module _ (u : State) (x : ℕ) (p : Port) (a : Access) where
  -- the verdict, by what is found
  pub found : (w : Want) (o : Maybe Tag) → registered u x ≡ o → verdict u x w p a ≡ admission (head_of u) (known_of o) w p a
  found w o e = ap (λ (r : Maybe Tag). admission (head_of u) (known_of r) w p a) e

  -- if a stranger is denied it, what is allowed is allowed of a registered tag
  pub there : (w : Want) → admission (head_of u) k.Nothing w p a ≡ Denied 6 → verdict u x w p a ≡ Allowed → There u x
  there w n e = go (registered u x) refl
    where
      go : (o : Maybe Tag) → registered u x ≡ o → There u x
      go nowhere q = absurd (not-both (sym e ∙ found w nowhere q ∙ n))
      go (here t) q = record { tag = t; is = q }

  -- if a registered tag is denied it, what is allowed is allowed of a stranger
  pub absent : (w : Want) → ((t : Attributes) → admission (head_of u) (k.Tag t) w p a ≡ Denied 6) → verdict u x w p a ≡ Allowed → registered u x ≡ nowhere
  absent w n e = go (registered u x) refl
    where
      go : (o : Maybe Tag) → registered u x ≡ o → registered u x ≡ nowhere
      go nowhere q = q
      go (here t) q = absurd (not-both (sym e ∙ found w (here t) q ∙ n t.about))

  -- a write: the data fits the area
  pub write-fits : (n : ℕ) (t : Tag) → registered u x ≡ here t → verdict u x (Write n) p a ≡ Allowed → n ≤ t.about.size
  write-fits n t q e = Admitted.allowed-write (head_of u) p a t.about n (sym (found (Write n) (here t) q) ∙ e)

  -- an allocation: there is room
  pub allocate-room : (new : Attributes) → verdict u x (Allocate new) p a ≡ Allowed → Room u x new.size
  allocate-room new e = record {
    new = absent (Allocate new) (λ t. Admitted.known-allocate (head_of u) p a t new) e;
    space = (Admitted.allowed-allocate (head_of u) p a _ new e).space;
  }

  -- a fitting: there is room, and the first data fits the area
  pub fit-room : (new : Attributes) (n : ℕ) → verdict u x (Fit new n) p a ≡ Allowed → Room u x new.size × (n ≤ new.size)
  fit-room new n e =
      let r = Admitted.allowed-fit (head_of u) p a _ new n e in
      (record { new = absent (Fit new n) (λ t. Admitted.known-fit (head_of u) p a t new n) e; space = r.space }, r.held)
