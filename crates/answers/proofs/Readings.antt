-- Reading an answer: the body of one operation's answer, that nothing read has a password, the types that are in no row of the table, and the whole answer
-- by its parts.
use Prim.Native.Nat.{ℕ, zero, suc, ◌+◌, ◌-◌, ◌<◌, ◌≤◌}
use mathlib.Core.Path.{◌≡◌, refl, sym, ap, ◌∙◌}
use mathlib.Core.Bool.{Bool, true, false, ◌&&◌, ◌||◌}
use mathlib.Core.List.{List, [], ◌∷◌}
use native.Mathlib.Omega.{arith}
use lib.ListN.{length, drop, get_or}
use lib.Dec.{leb}
use Rattle.std.specs.Prelude.{Result, Ok, Err, IsErrAnd, ◌⊎◌}
use mathlib.Core.Logic.{⊎_elim}
use borrow.Author.Tests.{lt-ltb, le-ltb, lt-leb, leb-true, ne_eqb}
use Rattle.octets.specs.Reading.{bad, ok, and_then, at_end}
use Rattle.octets.specs.Frame.{heading, decode}
use Rattle.octets.specs.View.{HeadingOf, EnclosedOf}
use Rattle.octets.specs.declared.Access.{Access}
use Rattle.octets.specs.declared.Access.TheVariants as a
use Rattle.octets.specs.declared.Heading.{Heading}
use Rattle.octets.specs.declared.Fault.{Fault}
use Rattle.octets.specs.declared.Fault.TheVariants.{Other}
use Rattle.octets.specs.declared.Form.{Form}
use Rattle.octets.specs.declared.Form.TheVariants as f
use Rattle.octets.proofs.Frames.{heading-short, decode-headless, decode-unenclosed, decode-body}
use Rattle.tags.specs.Entry.{form_of, Keyed, Held, key, memory}
use Rattle.requests.specs.Command.{Command, kind_of, form_at, known}
use Rattle.requests.proofs.Readings.{key-form, memory-form, under-bad, under-ok, handed, unknown, fault-told}
use Rattle.requests.proofs.Requests.{Listed, form-is}
use Rattle.answers.specs.Answer.{Body, body_of, answer_kind, answer_body, accepted, is_denial, answer_read}
use Rattle.answers.specs.View.{plain_tag, given_kind, given_body, GivenPlace, DecodedAs, DecodedAt, DenialOf, Understood}
use Rattle.answers.specs.declared.Given.{Given}
use Rattle.answers.specs.declared.Reply.{Reply}
use Rattle.answers.specs.declared.Reply.TheVariants as r
use Rattle.answers.proofs.Answers.{row, answer-lawful}

-- ---- the body of one operation's answer

-- a body that does not read
pub decoded-bad : {x : Command} {w : Form} {s : List ℕ} {at : ℕ} {r : Result Given Fault} {f : Fault}
    → IsErrAnd r (λ g. g ≡ f)
    → bad f ≡ at_end ((body_of x).get (drop at s)) → DecodedAs x w s at r
decoded-bad h e = rw (handed h) (record { says = e; place = tt })

-- a tag that is all of the answer to x
module _ (x : Command) {w : Form} {s : List ℕ} {at : ℕ} (g : Keyed → Body)
    (of : (l : List ℕ) → (body_of x).get l ≡ and_then ((key f.Plain).get l) (λ k r. ok (g k) r)) where
  pub tag-bad : {r : Result Given Fault} {h : Fault} → IsErrAnd r (λ g. g ≡ h)
      → bad h ≡ at_end ((key f.Plain).get (drop at s)) → DecodedAs x w s at r
  tag-bad h e = decoded-bad h (rw of (under-bad g _ e))

  pub tag-good : {tag : ℕ} {y : Given} → ok (plain_tag tag) [] ≡ at_end ((key f.Plain).get (drop at s))
      → given_body s y ≡ g (plain_tag tag) → given_kind y ≡ answer_kind x w
      → GivenPlace s y → DecodedAs x w s at (Ok y)
  tag-good e i k p = record { says = rw (of, i) (under-ok g _ e); place = (k, p) }

-- ---- no answer carries a password

-- an access of the plain form has no password
plain-is : (x : Access) → form_of x ≡ f.Plain → x ≡ a.Plain
plain-is a.Plain e = refl
plain-is (a.Password p) e = let z : ◌≡◌ {A = ℕ} 0 1 = cc in absurd (omega arith)

-- a plain tag that is read has no password
pub key-plain : (l : List ℕ) (k : Keyed) (r : List ℕ) → ok k r ≡ (key f.Plain).get l → ok (k.0, a.Plain) r ≡ (key f.Plain).get l
key-plain l k r e = rw (plain-is k.1 (key-form f.Plain l k r (sym e))) at e

-- and plain memory data neither
pub memory-plain : (l : List ℕ) (h : Held) (r : List ℕ) → ok h r ≡ (memory f.Plain).get l → ok ((h.0.0, a.Plain), h.1) r ≡ (memory f.Plain).get l
memory-plain l h r e = rw (plain-is h.0.1 (memory-form f.Plain l h r (sym e))) at e

-- ---- answers' types

-- a body of the table is read as the answer to its operation
pub decoded-at : {x : Command} {w : Form} {kind : ℕ} {s : List ℕ} {at : ℕ} {r : Result Given Fault}
    → DecodedAs x w s at r → kind ≡ answer_kind x w → Listed x w → DecodedAt kind s at r
decoded-at {x} {w} {kind} {s} {at} e k t = rw k (record { says = rw (row x w t) e.says; place = e.place })

-- the same of a body that one call reads in either form
pub decoded-either : {x : Command} {w : Form} {kind : ℕ} {s : List ℕ} {at : ℕ} {r : Result Given Fault}
    → DecodedAs x w s at r → w ≡ form_at (kind - 128)
    → (kind ≡ answer_kind x f.Plain) ⊎ (kind ≡ answer_kind x f.Password) → Listed x f.Plain → Listed x f.Password
    → DecodedAt kind s at r
decoded-either {x} {w} {kind} {s} {at} {r} e q p t u = ⊎_elim (go f.Plain t) (go f.Password u) p
  where
    go : (v : Form) → Listed x v → kind ≡ answer_kind x v → DecodedAt kind s at r
    go v t k =
        let n : kind - 128 ≡ kind_of x v = omega arith in
        let h : w ≡ v = q ∙ ap form_at n ∙ form-is x v t in
        decoded-at (rw h at e) k t

-- no octets are the body of a type that is in no row of the table
pub decoded-unknown : {kind : ℕ} {s : List ℕ} {at : ℕ} → (128 ≤ kind → 134 < kind) → (193 ≤ kind → 198 < kind)
    → DecodedAt kind s at (Err Other)
unfolding answer_body
decoded-unknown {kind} h g = record { says = rw (go (leb 128 kind) refl); place = tt }
  where
    go : (b : Bool) → leb 128 kind ≡ b → (b && known (kind - 128)) ≡ false
    go true t =
        let k : 128 ≤ kind = leb-true 128 kind t in
        unknown (kind - 128) (omega (arith, h k)) (λ e. omega (arith, g (omega arith)))
    go false t = refl

-- B, and k is none of the m numbers from n on
abbrev pub NoneOf : Type 0 → ℕ → ℕ → ℕ → Type 0
NoneOf B k n zero = B
NoneOf B k n (suc m) = NoneOf B k n m × (k ≡ n + m → ⊥)

module _ (B : Type 0) (k n : ℕ) where
  -- the first of both
  the_rest : (m : ℕ) → NoneOf B k n m → B
  the_rest zero p = p
  the_rest (suc m) p = the_rest m p.0

  -- if it is not below them, it is above them
  above : (m : ℕ) → NoneOf B k n m → n ≤ k → n + m ≤ k
  above zero p h = omega arith
  above (suc m) p h = omega (arith, above m p.0 h, p.1)

-- a type that is none of the thirteen is in no row of the table
unknown-answer : (k : ℕ) → NoneOf (NoneOf (Unit {0}) k 128 7) k 193 6 → (leb 128 k && known (k - 128)) ≡ false
unfolding known
unknown-answer k p = first (leb 128 k) refl
  where
    last : (b : Bool) → leb 65 (k - 128) ≡ b → (b && leb (k - 128) 70) ≡ false
    last true t = let h = above _ k 193 6 p (omega (arith, leb-true 65 (k - 128) t)) in lt-leb (k - 128) 70 (omega arith)
    last false t = refl

    first : (b : Bool) → leb 128 k ≡ b → (b && (leb (k - 128) 6 || (leb 65 (k - 128) && leb (k - 128) 70))) ≡ false
    first true t = let h = above _ k 128 7 (the_rest _ k 193 6 p) (leb-true 128 k t) in rw (lt-leb (k - 128) 6 (omega arith)) (last (leb 65 (k - 128)) refl)
    first false t = refl

-- and no octets are its body
pub unknown-body : (k : ℕ) (l : List ℕ) → NoneOf (NoneOf (Unit {0}) k 128 7) k 193 6 → (answer_body k).get l ≡ bad Other
unfolding answer_body
unknown-body k l p = rw (unknown-answer k p)

-- ---- the whole answer

-- over 2,048 octets are no answer
pub answer-long : {s : List ℕ} → 2048 < length s → Understood s (Err Other)
unfolding answer_read
answer-long {s} h = record { says = rw (lt-ltb _ _ h); place = tt }

-- with another second octet they are a message in its frame or nothing
pub answer-accepted : (s : List ℕ) → length s ≤ 2048 → (get_or s 1 0 ≡ 255 → ⊥)
    → answer_read s ≡ and_then (decode answer_body s) (λ m r. ok (accepted m) r)
unfolding answer_read
answer-accepted s h e = rw (le-ltb _ _ h, ne_eqb (get_or s 1 0) 255 e)

accepted-is : (s : List ℕ) → length s ≤ 2048 → is_denial s ≡ false
    → answer_read s ≡ and_then (decode answer_body s) (λ m r. ok (accepted m) r)
unfolding answer_read
accepted-is s h e = rw (le-ltb _ _ h, e)

-- fewer than two octets are no answer
pub answer-none : (s : List ℕ) → length s < 2 → answer_read s ≡ bad Other
answer-none s h =
    let e : heading s ≡ bad Other = heading-short s (omega arith) in
    rw (answer-accepted s (omega arith) (second s h), decode-headless answer_body answer-lawful s Other (sym e))
  where
    second : (s : List ℕ) → length s < 2 → get_or s 1 0 ≡ 255 → ⊥
    second [] h e = omega arith
    second (v ∷ []) h e = omega arith
    second (v ∷ c ∷ l) h e = omega arith

module _ {s : List ℕ} (h : length s ≤ 2048) where
  -- with 255 second they are a denial or nothing
  pub answer-denied : {r : Result Reply Fault} → is_denial s ≡ true → DenialOf s r → Understood s r
  unfolding answer_read
  answer-denied e d = record { says = rw (le-ltb _ _ h, e) d.says; place = d.place }

  -- with another
  module _ (e : is_denial s ≡ false) where
    -- octets without a heading
    pub answer-headless : {g : Fault} → HeadingOf s (Err g) → Understood s (Err g)
    answer-headless {g} i = record {
      says = rw (accepted-is s h e, decode-headless answer_body answer-lawful s _ i.says) (fault-told g);
      place = tt;
    }

    module _ {k : Heading} (i : HeadingOf s (Ok k)) where
      -- a heading and no body behind it
      pub answer-unenclosed : {g : Fault} → EnclosedOf s (Err g) → Understood s (Err g)
      answer-unenclosed {g} j = record {
        says = rw (accepted-is s h e, decode-unenclosed answer_body answer-lawful s _ _ _ i.says _ j.says) (fault-told g);
        place = tt;
      }

      module _ {at : ℕ} (j : EnclosedOf s (Ok at)) where
        -- a body that does not read
        pub answer-bad : {g : Fault} → DecodedAt k.kind s at (Err g) → Understood s (Err g)
        answer-bad {g} b =
            let d = decode-body answer_body answer-lawful s _ _ _ i.says _ j.says in
            record { says = rw (accepted-is s h e, d, ← b.says) (fault-told g); place = tt }

        -- a body that reads
        pub answer-good : {y : Given} → DecodedAt k.kind s at (Ok y) → Understood s (Ok (r.Accepted k.version y))
        answer-good b =
            let d = decode-body answer_body answer-lawful s _ _ _ i.says _ j.says in
            record { says = rw (accepted-is s h e, d, ← b.says, b.place.0); place = (i.place.1, b.place.1) }
