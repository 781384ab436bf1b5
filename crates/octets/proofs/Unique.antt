-- Each promise of this crate leaves one outcome: any two that it allows are equal.
-- The promises of length_size, octets_of, part, to_end, version_of, fill_of and bare_tag are themselves equations for the result.
use mathlib.Core.Bool.{cond}
use Prim.Native.Nat.{ℕ, ◌≤◌}
use Rattle.std.specs.Prelude.{Result, Ok, Err}
use mathlib.Core.Path.{◌≡◌, refl, sym, ap, ◌∙◌}
use mathlib.Core.List.{List}
use lib.ListN.{length}
use lib.Dec.{eqb}
use Rattle.octets.specs.Reading.{Read}
use Rattle.octets.specs.Area.{Outcome, done, refused, outcome, Written, Laid, Does}
use Rattle.octets.specs.View.{Reading, read_in, IfTaken, Reads, LengthAt, NumberAt, DataAt, heading_in, HeadingOf, enclosed_in, EnclosedPlace, EnclosedOf}
use Rattle.octets.specs.declared.Fault.{Fault}
use Rattle.octets.specs.declared.Taken.{Taken}
use Rattle.octets.specs.declared.Width.{Width}
use Rattle.octets.specs.declared.Span.{Span}
use Rattle.octets.specs.declared.Heading.{Heading}
use Rattle.octets.specs.declared.Unwritten.TheVariants.{Refused, NoRoom}
use Rattle.octets.proofs.Places.{drop-same, bad-ok, ok-val, ok-rest, bad-same}
use Rattle.octets.proofs.Spans.{span_same}

-- ---- readers of fields

-- two values with their next places are one
taken-same : {V : Type 0} {a b : Taken V} → a.value ≡ b.value → a.next ≡ b.next → a ≡ b
taken-same v w = λ i. record { value = v i; next = w i }

-- one reading: what the value shows, and where it lies, tell it from every other
pub reads-unique : {V A : Type 0} {p : Read A} {shown : V → A} {Place : Taken V → Type 0} {s : List ℕ} {r t : Reading V}
    → ((a : Taken V) → Place a → a.next ≤ length s)
    → ((a b : Taken V) → Place a → Place b → a.next ≡ b.next → shown a.value ≡ shown b.value → a.value ≡ b.value)
    → Reads p shown Place s r → Reads p shown Place s t → r ≡ t
reads-unique {V} {A} {p} {shown} {Place} {s} {r} {t} ends same x y = go r t x.place y.place (x.says ∙ sym y.says)
  where
    go : (r t : Reading V) → IfTaken Place r → IfTaken Place t → read_in shown s r ≡ read_in shown s t → r ≡ t
    go (Ok a) (Ok b) h k q =
        let w : a.next ≡ b.next = drop-same s a.next b.next (ends a h) (ends b k) (ok-rest q) in
        ap Ok (taken-same (same a b h k w (ok-val q)) w)
    go (Ok a) (Err g) h k q = absurd (bad-ok (sym q))
    go (Err f) (Ok b) h k q = absurd (bad-ok q)
    go (Err f) (Err g) h k q = ap Err (bad-same q)

module _ {s : List ℕ} where
  -- read_length: one number and one next place, or one fault
  pub length-unique : (at : ℕ) {r t : Reading ℕ} → LengthAt s at r → LengthAt s at t → r ≡ t
  length-unique at p q = reads-unique (λ a h. h.1) (λ a b h k w e. e) p q

  -- read_number: one number and one next place, or one fault
  pub number-unique : (at : ℕ) (w : Width) {r t : Reading ℕ} → NumberAt s at w r → NumberAt s at w t → r ≡ t
  number-unique at w p q = reads-unique (λ a h. h.0) (λ a b h k w e. e) p q

  -- read_data: one span and one next place, or one fault
  pub data-unique : (at : ℕ) {r t : Reading Span} → DataAt s at r → DataAt s at t → r ≡ t
  data-unique at p q = reads-unique (λ a h. h.1) (λ a b h k w e. span_same s a.value b.value h.0 (k.0 ∙ sym w) h.1 e) p q

  -- read_heading: one version and one operation type, or one fault
  pub heading-unique : {r t : Result Heading Fault} → HeadingOf s r → HeadingOf s t → r ≡ t
  heading-unique {r} {t} p q = go r t (p.says ∙ sym q.says)
    where
      go : (r t : Result Heading Fault) → heading_in s r ≡ heading_in s t → r ≡ t
      go (Ok h) (Ok k) e =
          let v : ◌≡◌ {A = ℕ × ℕ} (h.version, h.kind) (k.version, k.kind) = ok-val e in
          ap Ok (λ i. record { version = (v i).0; kind = (v i).1 })
      go (Ok h) (Err g) e = absurd (bad-ok (sym e))
      go (Err f) (Ok k) e = absurd (bad-ok e)
      go (Err f) (Err g) e = ap Err (bad-same e)

  -- read_enclosed: one place where the body starts, or one fault
  pub enclosed-unique : {r t : Result ℕ Fault} → EnclosedOf s r → EnclosedOf s t → r ≡ t
  enclosed-unique {r} {t} p q = go r t p.place q.place (p.says ∙ sym q.says)
    where
      go : (r t : Result ℕ Fault) → EnclosedPlace s r → EnclosedPlace s t → enclosed_in s r ≡ enclosed_in s t → r ≡ t
      go (Ok i) (Ok j) h k e = ap Ok (drop-same s i j h k (ok-rest e))
      go (Ok i) (Err g) h k e = absurd (bad-ok (sym e))
      go (Err f) (Ok j) h k e = absurd (bad-ok e)
      go (Err f) (Err g) h k e = ap Err (bad-same e)

-- ---- writers

-- the writer's answer that an outcome stands for
abbrev answer : Outcome → Written
answer (done n) = Ok n
answer (refused n) = cond (eqb n 16) (Err Refused) (Err NoRoom)

answer-is : (r : Written) → answer (outcome r) ≡ r
answer-is (Ok n) = refl
answer-is (Err Refused) = refl
answer-is (Err NoRoom) = refl

-- write_length, write_number and copy: one area and one next place
pub laid-unique : {old v new new' : List ℕ} {at next next' : ℕ} → Laid old at v new next → Laid old at v new' next' → (new ≡ new') × (next ≡ next')
laid-unique p q = (p.holds ∙ sym q.holds, p.ends ∙ sym q.ends)

-- open_message and every writer of messages: one answer and one area
pub does-unique : {o : Outcome × List ℕ} {r t : Written} {new new' : List ℕ} → Does o r new → Does o t new' → (r ≡ t) × (new ≡ new')
does-unique {o} {r} {t} p q = (sym (answer-is r) ∙ ap answer (p.says ∙ sym q.says) ∙ answer-is t, p.area ∙ sym q.area)
