-- Slices and the unit that they stand for: the lines that look at no unit, a start, and what respond and fit leave.
use Prim.Native.Nat.{ℕ, ◌<◌}
use mathlib.Core.Path.{◌≡◌, refl, sym, ap, ◌∙◌}
use mathlib.Core.Bool.{Bool, true, false, ◌&&◌, cond}
use mathlib.Core.List.{List, []}
use native.Mathlib.Omega.{arith}
use lib.IntN.{ℤ}
use lib.Dec.{ltb, eqb}
use lib.ListN.{length, get_or, replicate}
use borrow.Author.Tests.{eqb-true, ltb-false}
use Rattle.octets.specs.Area.{done, refused}
use Rattle.octets.specs.Number.{bare}
use Rattle.octets.specs.declared.Access.{Access}
use Rattle.octets.specs.declared.Port.{Port}
use Rattle.octets.specs.declared.Port.TheVariants.{Secure}
use Rattle.octets.proofs.Places.{both}
use Rattle.admission.specs.Want.{Allocate, Fit, Free, Write}
use Rattle.admission.specs.declared.Head.{Head}
use Rattle.admission.specs.declared.Mode.{Mode}
use Rattle.admission.specs.Denial.{Verdict, Allowed, Denied}
use Rattle.rows.specs.Keyed.{change, without}
use Rattle.store.specs.Answers.{begun, started, made, refused as unmade, Did}
use Rattle.store.specs.Model.{State, Tag, tag_id, new_unit, first_kind, head_of, Shows, Sound}
use Rattle.store.specs.Steps.{Step, verdict, acted, written, asked, more, write_step, free_step, allocate_step, fit_step}
use Rattle.std.specs.Option.{ok_or}
use Rattle.std.specs.Prelude.{Option, Some, None, Result, Ok, Err}
use Rattle.std.specs.Result.{IsErr, IsErrAnd}
use Rattle.std.proofs.lemmas.Result.{err_from_is_err_and}
use Rattle.capi.specs.declared.Refusal.{Refusal}
use Rattle.capi.specs.declared.Refusal.TheVariants as r
use Rattle.store.proofs.Sound.{start-sound}
use Rattle.responder.specs.Entry.{word_of, Responded}
use Rattle.responder.specs.Respond.{number, none, respond}
use Rattle.responder.specs.declared.Reply.{Reply}
use Rattle.responder.proofs.Kept.{respond-keeps}
use Rattle.capi.specs.Result.{number as refusal_number, outcome_of, number_of, judged, worded}
use Rattle.capi.specs.Slices.{Slices, lent, head_words, Holds}
use Rattle.capi.specs.Calls.{port_of, barred_by, start_line, port_line, mode_line, Starts, Answers, Responds, Does, Fits}

-- ---- the lines before a unit is looked at

module _ (n : ℕ) (x : Slices) where
  pub high-line : (b : Bool) → b ≡ true → barred_by b n x ≡ number n
  high-line b e = rw e

  pub unlent-line : (b : Bool) → b ≡ false → lent x ≡ false → barred_by b n x ≡ number 300
  unlent-line b e f = rw (e, f)

  pub no_line : (b : Bool) → b ≡ false → lent x ≡ true → barred_by b n x ≡ none
  no_line b e f = rw (e, f)

pub same_number : {n m : ℕ} → number n ≡ number m → n ≡ m
same_number e = cc

pub not_none : {n : ℕ} → number n ≡ none → ⊥
not_none e = cc

-- what `?` hands on is the refusal that it met
pub handed : (z : Result ℕ Refusal) (x y : Refusal) → IsErr z × IsErrAnd z (λ e. e ≡ x) → x ≡ y → number_of (outcome_of z) ≡ number_of (refused (refusal_number y))
handed z x y h e =
    let p = err_from_is_err_and z h.1 in
    rw (p.1, p.2, e)

-- what are_lent tells
pub is-lent : (b : Bool) (u : Unit {0}) → ◌≡◌ {A = Result (Unit {0}) Refusal} (Ok u) (cond b (Ok tt) (Err r.Room)) → b ≡ true
is-lent true u e = refl
is-lent false u e = absurd (cc)

pub is-unlent : (b : Bool) (x : Refusal) → ◌≡◌ {A = Result (Unit {0}) Refusal} (Err x) (cond b (Ok tt) (Err r.Room)) → (b ≡ false) × (x ≡ r.Room)
is-unlent true x e = absurd (cc)
is-unlent false x e = (refl, cc)

-- what is told of a number that may be too great
pub is-high : {A : Type 0} (b : Bool) (x : Refusal) (a : A) → ◌≡◌ {A = Result A Refusal} (Err x) (cond b (Err r.Value) (Ok a)) → (b ≡ true) × (x ≡ r.Value)
is-high true x a e = (refl, cc)
is-high false x a e = absurd (cc)

pub is-low : {A : Type 0} (b : Bool) (y a : A) → ◌≡◌ {A = Result A Refusal} (Ok y) (cond b (Err r.Value) (Ok a)) → (b ≡ false) × (y ≡ a)
is-low true y a e = absurd (cc)
is-low false y a e = (refl, cc)

pub lengths : (x : Slices) → lent x ≡ true → (length x.head ≡ 5) × (length x.table ≡ 256) × (length x.memory ≡ 8192)
lengths x h =
    let a = both (eqb (length x.head) 5 && eqb (length x.table) 256) (eqb (length x.memory) 8192) h in
    let b = both (eqb (length x.head) 5) (eqb (length x.table) 256) a.0 in
    (eqb-true (length x.head) 5 b.0, eqb-true (length x.table) 256 b.1, eqb-true (length x.memory) 8192 a.1)

-- ---- start

pub start-none : (o : Option Head) (x : Refusal) (v : ℕ) (a p : Bool) → begun o ≡ started first_kind v a p → Err x ≡ ok_or o r.Version → (ltb 15 v ≡ true) × (x ≡ r.Version)
unfolding started
start-none (Some h) x v a p e q = absurd (cc)
start-none None x v a p e q = (go (ltb 15 v) e, cc)
  where
    go : (t : Bool) → unmade 301 ≡ cond t (unmade 301) (made (head_of (new_unit first_kind v a p))) → t ≡ true
    go true q = refl
    go false q = absurd (cc)

pub start-some : (o : Option Head) (h : Head) (v : ℕ) (a p : Bool) → begun o ≡ started first_kind v a p → Ok h ≡ ok_or o r.Version
    → (ltb 15 v ≡ false) × (h ≡ head_of (new_unit first_kind v a p))
unfolding started
start-some None h v a p e q = absurd (cc)
start-some (Some x) h v a p e q = go (ltb 15 v) e
  where
    is : h ≡ x
    is = cc

    go : (t : Bool) → made x ≡ cond t (unmade 301) (made (head_of (new_unit first_kind v a p))) → (t ≡ false) × (h ≡ head_of (new_unit first_kind v a p))
    go true w = absurd (cc)
    go false w = let m : x ≡ head_of (new_unit first_kind v a p) = cc in (refl, is ∙ m)

module _ (v : ℕ) (a p : Bool) (old : Slices) (z : ℤ) where
  pub starts-barred : (n : ℕ) → start_line v old ≡ number n → z ≡ number_of (refused n) → Starts v a p old z old
  starts-barred n l e = record {
    barred = λ m q. (e ∙ ap (λ (k : ℕ). number_of (refused k)) (same_number (sym l ∙ q)), refl);
    made = λ q. absurd (not_none (sym l ∙ q));
  }

  -- a new unit
  pub starts-made : (new : Slices) → ltb 15 v ≡ false → lent old ≡ true → z ≡ number_of (done 0)
      → new.head ≡ head_words (head_of (new_unit first_kind v a p)) → new.table ≡ replicate (length old.table) 0 → new.memory ≡ replicate (length old.memory) 0 → Starts v a p old z new
  unfolding started
  starts-made new f l q w i o =
      let n = lengths old l in
      let b : made (head_of (new_unit first_kind v a p)) ≡ started first_kind v a p = rw f in
      let d : Shows (new_unit first_kind v a p) (head_of (new_unit first_kind v a p)) new.table new.memory =
      start-sound _ v a p new.table new.memory b (ltb-false 15 v f) (i ∙ ap (λ (k : ℕ). replicate k 0) n.1, o ∙ ap (λ (k : ℕ). replicate k 0) n.2) in
      record {
        barred = λ k g. absurd (not_none (sym g ∙ no_line 301 old (ltb 15 v) f l));
        made = λ g. (q, record { kind = refl; words = w; shown = d });
      }

-- ---- a unit that is kept

module _ (u : State) (x : Slices) (k : Holds u x) where
  pub head-five : length x.head ≡ 5
  head-five = ap length k.words

  pub head-low : get_or x.head 0 0 < 256
  head-low = let e : get_or x.head 0 0 ≡ u.version = ap (λ (l : List ℕ). get_or l 0 0) k.words in omega (arith, k.shown.valid.low)

  pub held-sound : (h : Head) → h ≡ head_of u → Sound h x.table x.memory
  held-sound h e = record { unit = u; shown = rw e k.shown }

-- ---- no step changes a unit's kind

acted-kind : (u : State) (v : Verdict) (m : List Tag) → u.limits ≡ first_kind → (acted u v m).unit.limits ≡ first_kind
acted-kind u Allowed m e = e
acted-kind u (Denied n) m e = e

write-kind : (u : State) (x : ℕ) (xs : List ℕ) (p : Port) (a : Access) → u.limits ≡ first_kind → (write_step u x xs p a).unit.limits ≡ first_kind
unfolding write_step
write-kind u x xs p a e = acted-kind u (verdict u x (Write (length xs)) p a) (change tag_id (bare x) (written xs) u.tags) e

free-kind : (u : State) (x : ℕ) (p : Port) (a : Access) → u.limits ≡ first_kind → (free_step u x p a).unit.limits ≡ first_kind
unfolding free_step
free-kind u x p a e = acted-kind u (verdict u x Free p a) (without tag_id (bare x) u.tags) e

allocate-kind : (u : State) (x size : ℕ) (mode : Mode) (spf : Bool) (p : Port) (a : Access) → u.limits ≡ first_kind → (allocate_step u x size mode spf p a).unit.limits ≡ first_kind
unfolding allocate_step
allocate-kind u x size mode spf p a e = acted-kind u (verdict u x (Allocate (asked x size mode spf a)) p a) (more u (asked x size mode spf a) []) e

respond-kind : (u : State) (p : Port) (s : List ℕ) (area : ℕ) → u.limits ≡ first_kind → (respond u p s area).unit.limits ≡ first_kind
respond-kind = respond-keeps (λ (u : State). u.limits ≡ first_kind) write-kind free-kind allocate-kind

fit-kind : (u : State) (x size : ℕ) (mode : Mode) (spf : Bool) (lock : Access) (xs : List ℕ) → u.limits ≡ first_kind → (fit_step u x size mode spf lock xs).unit.limits ≡ first_kind
unfolding fit_step
fit-kind u x size mode spf lock xs e = acted-kind u (verdict u x (Fit (asked x size mode spf lock) (length xs)) Secure lock) (more u (asked x size mode spf lock) xs) e

left-holds : (u : State) (h : Head) (new : Slices) → u.limits ≡ first_kind → new.head ≡ head_words h → Shows u h new.table new.memory → Holds u new
left-holds u h new e w d = record { kind = e; words = w ∙ ap head_words d.head; shown = rw d.head at d }

-- ---- respond

module _ (port : ℕ) (request : List ℕ) (old : Slices) (area : List ℕ) (r : ℤ) where
  pub responds-barred : (n : ℕ) → port_line port old ≡ number n → r ≡ number_of (refused n) → Responds port request old area r old area
  responds-barred n l e = record {
    barred = λ m q. (e ∙ ap (λ (k : ℕ). number_of (refused k)) (same_number (sym l ∙ q)), refl, refl);
    answered = λ q. absurd (not_none (sym l ∙ q));
  }

  pub responds : (new : Slices) (area' : List ℕ) → port_line port old ≡ none
      → ((u : State) → Holds u old → Answers (respond u (port_of port) request (length area)) r area area' new) → Responds port request old area r new area'
  responds new area' l f = record { barred = λ n q. absurd (not_none (sym q ∙ l)); answered = λ q. f }

pub answers : (u : State) (p : Port) (s area area' : List ℕ) (old new : Slices) (y : Reply) (r : ℤ) → Holds u old
    → Responded (respond u p s (length area)) y area area' new.table new.memory → new.head ≡ head_words y.head → r ≡ number_of (worded (word_of y.sent))
    → Answers (respond u p s (length area)) r area area' new
answers u p s area area' old new y r k d w e = record {
  says = e ∙ ap (λ x. number_of (worded x)) d.says;
  written = d.area;
  left = left-holds _ y.head new (respond-kind u p s (length area) k.kind) w d.left;
}

-- ---- fit

module _ (mode : ℕ) (step : State → Step) (old : Slices) (r : ℤ) where
  pub fits-barred : (n : ℕ) → mode_line mode old ≡ number n → r ≡ number_of (refused n) → Fits mode step old r old
  fits-barred n l e = record {
    barred = λ m q. (e ∙ ap (λ (k : ℕ). number_of (refused k)) (same_number (sym l ∙ q)), refl);
    fitted = λ q. absurd (not_none (sym l ∙ q));
  }

  pub fits : (new : Slices) → mode_line mode old ≡ none → ((u : State) → Holds u old → Does (step u) r new) → Fits mode step old r new
  fits new l f = record { barred = λ n q. absurd (not_none (sym q ∙ l)); fitted = λ q. f }

-- a fitting that is denied leaves the head's words; one that is done puts the new ones
pub does-fit : (u : State) (x size : ℕ) (mode : Mode) (spf : Bool) (lock : Access) (xs : List ℕ) (old new : Slices) (h : Head) (v : Verdict) (r : ℤ) → Holds u old
    → Did (fit_step u x size mode spf lock xs) v h new.table new.memory → new.head ≡ head_words h → r ≡ number_of (judged v) → Does (fit_step u x size mode spf lock xs) r new
does-fit u x size mode spf lock xs old new h v r k d w e = record {
  says = e ∙ ap (λ t. number_of (judged t)) d.answered;
  left = left-holds _ h new (fit-kind u x size mode spf lock xs k.kind) w d.left;
}
