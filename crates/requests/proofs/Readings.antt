-- Reading a request: the form of what is read, each operation's body from the value in it, the table of operation types, and the whole request by its parts.
use Prim.Native.Nat.{ℕ, zero, suc, ◌+◌, ◌<◌, ◌≤◌, zero-le}
use mathlib.Core.Path.{◌≡◌, refl, sym, ap, subst, ◌∙◌}
use mathlib.Core.Logic.{◌⊎◌, inl, inr, ⊎_elim}
use mathlib.Core.Bool.{Bool, true, false, ◌&&◌, cond}
use mathlib.Core.List.{List, [], ◌∷◌}
use native.Mathlib.Omega.{arith}
use lib.ListN.{length, drop}
use lib.Dec.{leb, ltb}
use Rattle.std.specs.Prelude.{Result, Ok, Err, IsErrAnd}
use Rattle.std.proofs.lemmas.Result.{err_from_is_err_and}
use borrow.Author.Tests.{lt-ltb, lt-leb, leb-true, ltb-true, ltb-false}
use Rattle.octets.specs.Reading.{Read, bad, ok, and_then, at_end, forget, Told, refused, fault_number}
use Rattle.octets.specs.Number.{decode_number}
use Rattle.octets.specs.Layout.{Layout, numeral, data', seq, via, entries}
use Rattle.octets.specs.Frame.{receive}
use Rattle.octets.specs.View.{to_end, Reads, DataAt, ListAt, HeadingOf, EnclosedOf}
use Rattle.octets.specs.declared.Access.TheVariants as a
use Rattle.octets.specs.declared.Entries.{Entries}
use Rattle.octets.specs.declared.Span.{Span}
use Rattle.octets.specs.declared.Fault.{Fault}
use Rattle.octets.specs.declared.Fault.TheVariants.{Missing, Longer, High, Other}
use Rattle.octets.specs.declared.Form.{Form}
use Rattle.octets.specs.declared.Form.TheVariants as f
use Rattle.octets.specs.declared.Heading.{Heading}
use Rattle.octets.specs.declared.Taken.{Taken}
use Rattle.octets.proofs.Places.{bad-ok, bad-same, here_end, ok-val, went, end-there, end_more, end_back}
use Rattle.octets.proofs.Frames.{receive_all, decode-headless, decode-unenclosed, decode-body}
use Rattle.tags.specs.Entry.{form_of, lock, Keyed, key, memory}
use Rattle.tags.specs.View.{KeyAt, MemoryAt}
use Rattle.tags.specs.declared.Key.{Key}
use Rattle.tags.specs.declared.Memory.{Memory}
use Rattle.resources.specs.Resource.{mode, grant_of, grant_parts, allocation}
use Rattle.resources.specs.View.{AllocationAt}
use Rattle.resources.specs.declared.Allocation.{Allocation}
use Rattle.requests.specs.Command.{Command, kind_of, known, form_at}
use Rattle.requests.specs.Request.{Body, body_of, request_body}
use Rattle.requests.specs.View.{operation_kind, operation_body, whole_in, ListEnds, OperationPlace, DecodedAs, DecodedAt, Understood}
use Rattle.requests.specs.declared.Operation.{Operation}
use Rattle.requests.proofs.Requests.{Listed, form-is, row, request-lawful}

-- ---- what is read is of the form that was asked for

-- whatever a layout reads is so
abbrev Gives : {A : Type 0} → Layout A → (A → Type 0) → Type 0
Gives {A} L P = (l : List ℕ) (a : A) (r : List ℕ) → L.get l ≡ ok a r → P a

module _ {A B : Type 0} (L : Layout A) (M : Layout B) where
  -- of one after the other: its first value is so if the first layout gives such, and its second if the second does
  gives-first : (P : A → Type 0) → Gives L P → Gives (seq L M) (λ p. P p.0)
  gives-first P h l p r e =
      let v = went (L.get l) (λ x t. and_then (M.get t) (λ y u. ok (x, y) u)) p r e in
      let z = went (M.get v.rest) (λ y u. ok (v.val, y) u) p r v.then in
      subst P (ap (λ (q : A × B). q.0) (ok-val z.then)) (h l v.val v.rest v.first)

  gives-second : (P : B → Type 0) → Gives M P → Gives (seq L M) (λ p. P p.1)
  gives-second P h l p r e =
      let v = went (L.get l) (λ x t. and_then (M.get t) (λ y u. ok (x, y) u)) p r e in
      let z = went (M.get v.rest) (λ y u. ok (v.val, y) u) p r v.then in
      subst P (ap (λ (q : A × B). q.1) (ok-val z.then)) (h v.rest z.val z.rest z.first)

  -- of values of another type
  gives-via : (f : A → B) (g : B → A) (P : B → Type 0) → Gives L (λ a. P (f a)) → Gives (via f g L) P
  gives-via f g P h l b r e =
      let v = went (L.get l) (λ x t. ok (f x) t) b r e in
      subst P (ok-val v.then) (h l v.val v.rest v.first)

-- an access, a tag with its access, memory data, an allocation
lock-form : (w : Form) → Gives (lock w) (λ x. form_of x ≡ w)
lock-form f.Plain l x r e = rw (← ok-val e)
lock-form f.Password l x r e =
    let v = went (decode_number 8 l) (λ p t. ok (a.Password p) t) x r e in
    rw (← ok-val v.then)

pub key-form : (w : Form) → Gives (key w) (λ k. form_of k.1 ≡ w)
key-form w = gives-second (numeral 8) (lock w) (λ x. form_of x ≡ w) (lock-form w)

pub memory-form : (w : Form) → Gives (memory w) (λ h. form_of (h).0.1 ≡ w)
memory-form w = gives-first (key w) data' (λ k. form_of k.1 ≡ w) (key-form w)

allocation-form : (w : Form) → Gives (allocation w) (λ g. form_of g.access ≡ w)
allocation-form w =
    gives-via (seq (numeral 8) (seq mode (seq (numeral 4) (seq (lock w) data')))) (allocation w) grant_of grant_parts (λ g. form_of g.access ≡ w)
    (gives-second (numeral 8) (seq mode (seq (numeral 4) (seq (lock w) data'))) (λ p. form_of p.1.1.0 ≡ w)
    (gives-second mode (seq (numeral 4) (seq (lock w) data')) (λ p. form_of p.1.0 ≡ w)
    (gives-second (numeral 4) (seq (lock w) data') (λ p. form_of p.0 ≡ w)
    (gives-first (lock w) data' (λ x. form_of x ≡ w) (lock-form w)))))

-- and so is the access that read_key, read_memory and read_allocation answer
module _ {w : Form} {s : List ℕ} (at : ℕ) where
  pub key-access : {t : Taken Key} → KeyAt s at w (Ok t) → form_of t.value.access ≡ w
  key-access e = key-form w (drop at s) _ _ (sym e.says)

  pub memory-access : {t : Taken Memory} → MemoryAt s at w (Ok t) → form_of t.value.access ≡ w
  memory-access e = memory-form w (drop at s) _ _ (sym e.says)

  pub allocation-access : {t : Taken Allocation} → AllocationAt s at w (Ok t) → form_of t.value.access ≡ w
  allocation-access e = allocation-form w (drop at s) _ _ (sym e.says)

-- memory data is a tag and data behind it
pub memory-parts : (w : Form) {s : List ℕ} (at : ℕ) {t : Taken Key} {d : Taken Span} → KeyAt s at w (Ok t)
    → DataAt s t.next (Ok d)
    → MemoryAt s at w (Ok (record {
      value = record { access = t.value.access; tag = t.value.tag; span = d.value };
      next = d.next;
    }))
memory-parts w at e f = record { says = rw (← e.says, ← f.says); place = f.place }

-- ---- what is read to the last octet

module _ {V A : Type 0} {p : Read A} {shown : V → A} {Place : Taken V → Type 0} {s : List ℕ} where
  -- what reads is its value, if nothing stands behind it
  pub whole : {t : Taken V} → Reads p shown Place s (Ok t) → whole_in shown (to_end s t) ≡ at_end p
  whole {t} e = rw (← e.says) (go (ltb t.next (length s)) refl)
    where
      go : (b : Bool) → ltb t.next (length s) ≡ b
          → whole_in shown (cond b (Err Other) (Ok t.value)) ≡ at_end (ok (shown t.value) (drop t.next s))
      go true h = sym (end_more s (shown t.value) t.next (ltb-true _ _ h))
      go false h = sym (end-there s (shown t.value) t.next (ltb-false _ _ h))

  -- a fault, where something does
  pub behind : {t : Taken V} {f : Fault} → Reads p shown Place s (Ok t) → Err f ≡ to_end s t → bad f ≡ at_end p
  behind {t} e h = let w : whole_in shown (to_end s t) ≡ at_end p = whole e in rw (← h) at w

  -- where to_end gives a value it is that one, and the octets end there
  pub at-end : {t : Taken V} {v : V} → Reads p shown Place s (Ok t) → Ok v ≡ to_end s t
      → (v ≡ t.value) × (length s ≤ t.next)
  at-end {t} {v} e h = go (ltb t.next (length s)) refl h
    where
      go : (b : Bool) → ltb t.next (length s) ≡ b → ◌≡◌ {A = Result V Fault} (Ok v) (cond b (Err Other) (Ok t.value))
          → (v ≡ t.value) × (length s ≤ t.next)
      go true q k = let z : ◌≡◌ {A = ℕ} 0 1 = cc in absurd (omega arith)
      go false q k = (cc, ltb-false _ _ q)

  -- where it gives a fault they go on
  pub not-end : {t : Taken V} {f : Fault} → Reads p shown Place s (Ok t) → Err f ≡ to_end s t
      → (f ≡ Other) × (t.next < length s)
  not-end {t} {f} e h = go (ltb t.next (length s)) refl h
    where
      go : (b : Bool) → ltb t.next (length s) ≡ b → ◌≡◌ {A = Result V Fault} (Err f) (cond b (Err Other) (Ok t.value))
          → (f ≡ Other) × (t.next < length s)
      go true q k = (cc, ltb-true _ _ q)
      go false q k = let z : ◌≡◌ {A = ℕ} 0 1 = cc in absurd (omega arith)

module _ {A B : Type 0} (g : A → B) where
  -- under a constructor a fault is the same
  pub under-bad : (p : Read A) {f : Fault} → bad f ≡ at_end p → bad f ≡ at_end (and_then p (λ a r. ok (g a) r))
  under-bad (bad h) e = rw (bad-same e)
  under-bad (ok a []) e = absurd (bad-ok e)
  under-bad (ok a (x ∷ r)) e = rw (bad-same e)

  -- and a value is under it
  pub under-ok : (p : Read A) {a : A} → ok a [] ≡ at_end p → ok (g a) [] ≡ at_end (and_then p (λ a r. ok (g a) r))
  under-ok (bad h) e = absurd (bad-ok (sym e))
  under-ok (ok a []) e = rw (ok-val e)
  under-ok (ok a (x ∷ r)) e = absurd (bad-ok (sym e))

-- what a `?` hands on is the fault that it met
pub handed : {T : Type 0} {r : Result T Fault} {f : Fault} → IsErrAnd r (λ g. g ≡ f) → r ≡ Err f
handed {T} {r} {f} h = let p = err_from_is_err_and r h in p.1 ∙ ap (λ (g : Fault). Err g) p.2

-- ---- the body of one operation

-- a body that does not read
pub decoded-bad : {x : Command} {w : Form} {s : List ℕ} {at : ℕ} {r : Result Operation Fault} {f : Fault}
    → IsErrAnd r (λ g. g ≡ f)
    → bad f ≡ at_end ((body_of x w).get (drop at s)) → DecodedAs x w s at r
decoded-bad h e = rw (handed h) (record { says = e; place = tt })

-- a tag that is all of the body of x, under the constructors of an operation and of what it asks
module _ (x : Command) {w : Form} {s : List ℕ} {at : ℕ} (g : Keyed → Body)
    (row : (l : List ℕ) → (body_of x w).get l ≡ and_then ((key w).get l) (λ k r. ok (g k) r)) where
  pub tag-bad : {r : Result Operation Fault} {f : Fault} → IsErrAnd r (λ g. g ≡ f)
      → bad f ≡ at_end ((key w).get (drop at s)) → DecodedAs x w s at r
  tag-bad h e = decoded-bad h (rw row (under-bad g _ e))

  pub tag-good : {k : Keyed} {y : Operation} → ok k [] ≡ at_end ((key w).get (drop at s)) → operation_body s y ≡ g k
      → operation_kind y ≡ kind_of x (form_of k.1) → OperationPlace s y
      → DecodedAs x w s at (Ok y)
  tag-good {k} {y} e i j p =
      let n : form_of k.1 ≡ w = key-form w (drop at s) k [] ((end_back ((key w).get (drop at s)) k [] (sym e)).0) in
      record { says = rw (row, i) (under-ok g _ e); place = (j ∙ ap (kind_of x) n, p) }

-- a list that was read to the last octet ends where the octets end
pub list-ends : {A : Type 0} (L : Layout A) (s : List ℕ) (x : Entries) (next : ℕ) → length s ≤ next
    → (x.start ≤ length s) × (next ≤ length s) × (forget (entries L x.count (drop x.start s)) ≡ ok tt (drop next s)) → ListEnds L s x
list-ends L s x next h p = (p.0, p.2 ∙ ap (λ (l : List ℕ). ok tt l) (here_end s next h))

-- the same, of the answer of a reader of lists
pub list-whole : {A : Type 0} (L : Layout A) {s : List ℕ} (at : ℕ) {t : Taken Entries} → ListAt L s at (Ok t)
    → length s ≤ t.next → ListEnds L s t.value
list-whole L {s} at {t} e h = list-ends L s t.value t.next h e.place

-- ---- the table of operation types

-- a body of the table is read as the body of its operation
pub decoded-at : {x : Command} {w : Form} {kind : ℕ} {s : List ℕ} {at : ℕ} {r : Result Operation Fault}
    → DecodedAs x w s at r → kind ≡ kind_of x w → Listed x w → DecodedAt kind s at r
decoded-at {x} {w} {kind} {s} {at} e k t = rw k (record { says = rw (row x w t) e.says; place = e.place })

-- the same of a body that one call reads in either form
pub decoded-either : {x : Command} {w : Form} {kind : ℕ} {s : List ℕ} {at : ℕ} {r : Result Operation Fault}
    → DecodedAs x w s at r → w ≡ form_at kind
    → (kind ≡ kind_of x f.Plain) ⊎ (kind ≡ kind_of x f.Password) → Listed x f.Plain → Listed x f.Password
    → DecodedAt kind s at r
decoded-either {x} {w} {kind} {s} {at} {r} e q p t u = ⊎_elim (go f.Plain t) (go f.Password u) p
  where
    go : (v : Form) → Listed x v → kind ≡ kind_of x v → DecodedAt kind s at r
    go v t k = let h : w ≡ v = q ∙ ap form_at k ∙ form-is x v t in decoded-at (rw h at e) k t

-- a number is none of a list
abbrev pub Others : ℕ → List ℕ → Type 0
Others k [] = Unit {0}
Others k (i ∷ l) = Others k l × (k ≡ i → ⊥)

-- the n numbers from m on, the last first, before a list
abbrev pub from : ℕ → ℕ → List ℕ → List ℕ
from m zero l = l
from m (suc n) l = (m + n) ∷ from m n l

-- what is none of them is none of the list behind them
others-rest : (k m n : ℕ) (l : List ℕ) → Others k (from m n l) → Others k l
others-rest k m zero l o = o
others-rest k m (suc n) l o = others-rest k m n l o.0

-- and is below them or past them
others-past : (k m n : ℕ) (l : List ℕ) → Others k (from m n l) → m ≤ k → m + n ≤ k
others-past k m zero l o h = omega arith
others-past k m (suc n) l o h = omega (arith, others-past k m n l o.0 h, o.1)

-- neither of two numbers
pub neither : {k i j : ℕ} → ((k ≡ i) ⊎ (k ≡ j) → ⊥) → (k ≡ i → ⊥) × (k ≡ j → ⊥)
neither n = (λ e. n (inl e), λ e. n (inr e))

-- the operation types of the table
abbrev pub types : List ℕ
types = from 65 6 (from 0 7 [])

-- a type between the columns of the table or past them is in no row of it
pub unknown : (k : ℕ) → 6 < k → (65 ≤ k → 70 < k) → known k ≡ false
unfolding known
unknown k h g = rw (lt-leb k 6 h) (go (leb 65 k) refl)
  where
    go : (b : Bool) → leb 65 k ≡ b → (b && leb k 70) ≡ false
    go true t = lt-leb k 70 (g (leb-true 65 k t))
    go false t = refl

-- and so is one that is none of the thirteen
pub unknown-others : (k : ℕ) → Others k types → known k ≡ false
unknown-others k o =
    unknown k (others-past k 0 7 [] (others-rest k 65 6 (from 0 7 []) o) zero-le) (others-past k 65 6 (from 0 7 []) o)

-- no body is read for it
pub decoded-unknown : {kind : ℕ} {s : List ℕ} {at : ℕ} → 6 < kind → (65 ≤ kind → 70 < kind)
    → DecodedAt kind s at (Err Other)
unfolding request_body
decoded-unknown {kind} h g = record { says = rw (unknown kind h g); place = tt }

-- ---- the whole request

-- a fault of any kind is told by document 01's number
pub fault-told : {A : Type 0} (f : Fault) → ◌≡◌ {A = Told A} (refused (fault_number f) f) (refused 16 f)
fault-told Missing = refl
fault-told Longer = refl
fault-told High = refl
fault-told Other = refl

-- over 2,048 octets are no request
pub request-long : {s : List ℕ} → 2048 < length s → Understood s (Err Other)
unfolding receive
request-long {s} k = record { says = rw (lt-ltb _ _ k); place = tt }

module _ {s : List ℕ} (k : length s ≤ 2048) where
  -- nor are octets without a heading
  pub request-headless : {f : Fault} → HeadingOf s (Err f) → Understood s (Err f)
  request-headless {f} e = record {
    says = rw (receive_all request_body request-lawful s k, decode-headless request_body request-lawful s _ e.says)
        (fault-told f);
    place = tt;
  }

  module _ {h : Heading} (e : HeadingOf s (Ok h)) where
    -- a heading and no body behind it
    pub request-unenclosed : {f : Fault} → EnclosedOf s (Err f) → Understood s (Err f)
    request-unenclosed {f} i = record {
      says = rw (receive_all request_body request-lawful s k, decode-unenclosed request_body request-lawful s _ _ _ e.says _ i.says) (fault-told f);
      place = tt;
    }

    module _ {at : ℕ} (i : EnclosedOf s (Ok at)) where
      -- a body that does not read
      pub request-bad : {f : Fault} → DecodedAt h.kind s at (Err f) → Understood s (Err f)
      request-bad {f} g = record {
        says = rw (receive_all request_body request-lawful s k, decode-body request_body request-lawful s _ _ _ e.says _ i.says, ← g.says) (fault-told f);
        place = tt;
      }

      -- a body that reads
      pub request-good : {y : Operation} → DecodedAt h.kind s at (Ok y)
          → Understood s (Ok (record { version = h.version; operation = y }))
      request-good g = record {
        says = rw (receive_all request_body request-lawful s k, decode-body request_body request-lawful s _ _ _ e.says _ i.says, ← g.says, g.place.0);
        place = (e.place.1, g.place.1);
      }
