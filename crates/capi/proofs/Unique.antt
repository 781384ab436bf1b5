-- Each promise of this crate leaves one outcome: any two that it allows are equal, in the number and in every word and octet that the function may touch. And what
-- start, respond and fit leave is what respond and fit ask (`Kept`).
use Prim.Native.Nat.{ℕ}
use mathlib.Core.Path.{◌≡◌, refl, sym, ap, ◌∙◌}
use mathlib.Core.Bool.{Bool, true, false, cond}
use mathlib.Core.List.{List}
use lib.IntN.{ℤ}
use lib.Dec.{ltb}
use Rattle.octets.specs.Area.{Outcome}
use Rattle.octets.specs.Reading.{Octets}
use Rattle.octets.specs.View.{Reading}
use Rattle.octets.specs.declared.Fault.{Fault}
use Rattle.tags.specs.declared.Key.{Key}
use Rattle.tags.specs.declared.Memory.{Memory}
use Rattle.tags.proofs.Unique.{key-unique, memory-unique}
use Rattle.resources.specs.declared.Resource.{Resource}
use Rattle.resources.proofs.Unique.{resource-unique}
use Rattle.answers.specs.declared.Reply.{Reply}
use Rattle.answers.proofs.Unique.{answer-unique}
use Rattle.octets.specs.declared.Form.TheVariants.{Plain}
use Rattle.std.specs.Prelude.{Result}
use Rattle.store.specs.Model.{State, new_unit, first_kind}
use Rattle.store.specs.Steps.{Step}
use Rattle.store.proofs.Unique.{shows-unique}
use Rattle.responder.specs.Respond.{Line, number, none}
use Rattle.capi.specs.Result.{number_of}
use Rattle.capi.specs.Slices.{Slices, lent, Holds, Kept}
use Rattle.capi.specs.Calls.{barred_by, start_line, port_line, mode_line, Starts, Responds, Fits}
use Rattle.capi.specs.Gate.{Gives, reply_filled, short, key_filled, memory_filled, resource_filled, ReadsAnswer, ReadsTag, ReadsMemory, ReadsResource}
use Rattle.capi.proofs.Units.{not_none}

-- ---- slices

-- a unit is held by one content of the slices
pub holds-unique : (u : State) (x y : Slices) → Holds u x → Holds u y → x ≡ y
holds-unique u x y a b =
    let w = shows-unique u _ _ x.table x.memory y.table y.memory a.shown b.shown in
    let h : x.head ≡ y.head = a.words ∙ sym b.words in
    rw (h, w.1, w.2)

-- a line is a number or none
pub line-case : (P : Type 0) (l : Line) → ((n : ℕ) → l ≡ number n → P) → (l ≡ none → P) → P
line-case P (number n) f g = f n refl
line-case P none f g = g refl

-- where no line bars, the slices have a unit's lengths
pub none_lent : (b : Bool) (n : ℕ) (x : Slices) → barred_by b n x ≡ none → lent x ≡ true
none_lent true n x e = absurd (not_none e)
none_lent false n x e = go (lent x) e
  where
    go : (t : Bool) → cond t none (number 300) ≡ none → t ≡ true
    go true q = refl
    go false q = absurd (not_none q)

pub record Same (r r' : ℤ) (x x' : Slices) : Type 0 where
  pub number : r ≡ r'
  pub left : x ≡ x'

-- ---- start, respond, fit

module _ (version : ℕ) (allocation passwords : Bool) (old : Slices) (r r' : ℤ) (new new' : Slices) where
  -- taxeedhuul_start
  pub start-unique : Starts version allocation passwords old r new → Starts version allocation passwords old r' new' → Same r r' new new'
  start-unique a b =
      line-case (Same r r' new new') (start_line version old)
      (λ n e. record { number = (a.barred n e).0 ∙ sym (b.barred n e).0; left = (a.barred n e).1 ∙ sym (b.barred n e).1 })
      (λ e. record { number = (a.made e).0 ∙ sym (b.made e).0; left = holds-unique _ new new' (a.made e).1 (b.made e).1 })

  -- a unit that was made may be handed to respond and fit
  pub start-kept : Starts version allocation passwords old r new → start_line version old ≡ none → Kept new.head new.table new.memory
  start-kept a e = record { stands = λ l. record { unit = new_unit first_kind version allocation passwords; holds = (a.made e).1 } }

module _ (port : ℕ) (request : List ℕ) (old : Slices) (k : Kept old.head old.table old.memory) (area : List ℕ) where
  -- taxeedhuul_respond
  pub respond-unique : (r r' : ℤ) (new new' : Slices) (area' area'' : List ℕ) → Responds port request old area r new area' → Responds port request old area r' new' area''
      → Same r r' new new' × (area' ≡ area'')
  respond-unique r r' new new' area' area'' a b =
      line-case (Same r r' new new' × (area' ≡ area'')) (port_line port old)
      (λ n e. (record { number = (a.barred n e).0 ∙ sym (b.barred n e).0; left = (a.barred n e).1 ∙ sym (b.barred n e).1 }, (a.barred n e).2 ∙ sym (b.barred n e).2))
      (λ e.
      let s = k.stands (none_lent (ltb 1 port) 16 old e) in
      let x = a.answered e s.unit s.holds in
      let y = b.answered e s.unit s.holds in
      (record { number = x.says ∙ sym y.says; left = holds-unique _ new new' x.left y.left }, x.written ∙ sym y.written))

  -- what it leaves may be handed to it again
  pub respond-kept : (r : ℤ) (new : Slices) (area' : List ℕ) → Responds port request old area r new area' → Kept new.head new.table new.memory
  respond-kept r new area' a =
      line-case (Kept new.head new.table new.memory) (port_line port old)
      (λ n e. rw (a.barred n e).1 k)
      (λ e.
      let s = k.stands (none_lent (ltb 1 port) 16 old e) in
      record { stands = λ l. record { unit = _; holds = (a.answered e s.unit s.holds).left } })

module _ (mode : ℕ) (step : State → Step) (old : Slices) (k : Kept old.head old.table old.memory) where
  -- taxeedhuul_fit
  pub fit-unique : (r r' : ℤ) (new new' : Slices) → Fits mode step old r new → Fits mode step old r' new' → Same r r' new new'
  fit-unique r r' new new' a b =
      line-case (Same r r' new new') (mode_line mode old)
      (λ n e. record { number = (a.barred n e).0 ∙ sym (b.barred n e).0; left = (a.barred n e).1 ∙ sym (b.barred n e).1 })
      (λ e.
      let s = k.stands (none_lent (ltb 2 mode) 16 old e) in
      let x = a.fitted e s.unit s.holds in
      let y = b.fitted e s.unit s.holds in
      record { number = x.says ∙ sym y.says; left = holds-unique _ new new' x.left y.left })

  -- what it leaves may be handed to it again
  pub fit-kept : (r : ℤ) (new : Slices) → Fits mode step old r new → Kept new.head new.table new.memory
  fit-kept r new a =
      line-case (Kept new.head new.table new.memory) (mode_line mode old)
      (λ n e. rw (a.barred n e).1 k)
      (λ e.
      let s = k.stands (none_lent (ltb 2 mode) 16 old e) in
      record { stands = λ l. record { unit = _; holds = (a.fitted e s.unit s.holds).left } })

-- ---- the gate

-- every writer: one number and one area
pub gives-unique : {o : Outcome × List ℕ} {r r' : ℤ} {new new' : List ℕ} → Gives o r new → Gives o r' new' → (r ≡ r') × (new ≡ new')
gives-unique a b = (a.says ∙ sym b.says, a.area ∙ sym b.area)

-- the same for a reader, whose promise names an answer x or y of the layer below
same_gives : {A : Type 0} (f : A → Outcome × List ℕ) {x y : A} {r r' : ℤ} {new new' : List ℕ} → x ≡ y → Gives (f x) r new → Gives (f y) r' new' → (r ≡ r') × (new ≡ new')
same_gives f e a b = (a.says ∙ ap (λ z. number_of (f z).0) e ∙ sym b.says, a.area ∙ ap (λ z. (f z).1) e ∙ sym b.area)

module _ (s old : List ℕ) {r r' : ℤ} {new new' : List ℕ} where
  -- taxeedhuul_read_answer
  pub answer-read-unique : Octets s → ReadsAnswer s old r new → ReadsAnswer s old r' new' → (r ≡ r') × (new ≡ new')
  answer-read-unique o a b = same_gives (λ (y : Result Reply Fault). reply_filled y old) (answer-unique o a.understood b.understood) a.gives b.gives

  -- taxeedhuul_read_tag
  pub tag-read-unique : (at : ℕ) → ReadsTag s at old r new → ReadsTag s at old r' new' → (r ≡ r') × (new ≡ new')
  tag-read-unique at a b = same_gives (λ (y : Reading Key). short s (key_filled y old) old) (key-unique at Plain a.stands b.stands) a.gives b.gives

  -- taxeedhuul_read_memory_data
  pub memory-read-unique : (at : ℕ) → ReadsMemory s at old r new → ReadsMemory s at old r' new' → (r ≡ r') × (new ≡ new')
  memory-read-unique at a b = same_gives (λ (y : Reading Memory). short s (memory_filled y old) old) (memory-unique at Plain a.stands b.stands) a.gives b.gives

  -- taxeedhuul_read_resource
  pub resource-read-unique : (at : ℕ) → ReadsResource s at old r new → ReadsResource s at old r' new' → (r ≡ r') × (new ≡ new')
  resource-read-unique at a b =
      same_gives (λ (y : Reading Resource). short s (resource_filled y old) old) (resource-unique s at a.entry b.entry a.stands b.stands) a.gives b.gives
