-- A refusal touches nothing: where a function's promise allows a negative number, it leaves every slice as it was.
use Prim.Native.Nat.{ℕ}
use mathlib.Core.Path.{◌≡◌, refl, ◌∙◌}
use mathlib.Core.Bool.{Bool, true, false, cond}
use mathlib.Core.List.{List, ◌++◌}
use lib.IntN.{ℤ, negsuc}
use lib.ListN.{length, drop}
use lib.Dec.{ltb}
use Rattle.octets.specs.Area.{Outcome, done, refused, written, described}
use Rattle.octets.specs.declared.Access.{Access}
use Rattle.octets.specs.View.{Reading}
use Rattle.octets.specs.declared.Fault.{Fault}
use Rattle.octets.specs.declared.Form.{Form}
use Rattle.octets.specs.declared.Port.TheVariants.{Secure}
use Rattle.octets.specs.Frame.{Message}
use Rattle.tags.specs.declared.Key.{Key}
use Rattle.tags.specs.declared.Memory.{Memory}
use Rattle.lists.specs.Handed.{agrees, belong, keys_of, held_of}
use Rattle.resources.specs.declared.Resource.{Resource}
use Rattle.requests.specs.Request.{Body, bulk_read, bulk_write, request_writable, request_octets, request, request_sent, bulk_read_sent, bulk_write_sent}
use Rattle.answers.specs.View.{given_kind}
use Rattle.answers.specs.declared.Reply.{Reply}
use Rattle.answers.specs.declared.Reply.TheVariants as y
use Rattle.admission.specs.Want.{Fit}
use Rattle.admission.specs.declared.Mode.{Mode}
use Rattle.admission.specs.Denial.{Verdict, Allowed, Denied}
use Rattle.store.specs.Model.{State, Tag}
use Rattle.store.specs.Steps.{verdict, acted, asked, more, fit_step}
use Rattle.responder.specs.Entry.{word_for, area_for}
use Rattle.responder.specs.Respond.{Result as Answered, silent, replied, respond}
use Rattle.std.specs.Prelude.{Result, Ok, Err}
use Rattle.responder.proofs.Refusals.{silence-keeps}
use Rattle.capi.specs.Result.{number_of, judged, worded}
use Rattle.capi.specs.Slices.{Slices, Holds, Kept}
use Rattle.capi.specs.Calls.{port_of, start_line, port_line, mode_line, Starts, Responds, Does, Fits}
use Rattle.capi.specs.Gate.{Gives, filled, given_words, roomless, reply_filled, short, key_filled, memory_filled, resource_filled, ReadsAnswer, ReadsTag, ReadsMemory, ReadsResource}
use Rattle.capi.proofs.Unique.{line-case, none_lent, holds-unique}

-- what went well is no negative number
well-not : {n k : ℕ} {r : ℤ} → r ≡ number_of (done n) → r ≡ negsuc k → ⊥
well-not a b = cc

-- ---- the unit

module _ (version : ℕ) (allocation passwords : Bool) (old : Slices) (r : ℤ) (new : Slices) where
  pub start-refused : Starts version allocation passwords old r new → (k : ℕ) → r ≡ negsuc k → new ≡ old
  start-refused a k q = line-case (new ≡ old) (start_line version old) (λ n e. (a.barred n e).1) (λ e. absurd (well-not (a.made e).0 q))

module _ (port : ℕ) (s : List ℕ) (old : Slices) (kept : Kept old.head old.table old.memory) (area : List ℕ) (r : ℤ) (new : Slices) (area' : List ℕ) where
  silent-leaves : (u : State) → Holds u old → (o : Answered) → (respond u (port_of port) s (length area)).result ≡ o → r ≡ number_of (worded (word_for o))
      → area' ≡ area_for o area → Holds (respond u (port_of port) s (length area)).unit new → (k : ℕ) → r ≡ negsuc k → (new ≡ old) × (area' ≡ area)
  silent-leaves u h (replied x) e w g l k q = absurd (well-not w q)
  silent-leaves u h (silent n) e w g l k q = (holds-unique u new old (rw (silence-keeps u (port_of port) s (length area) n e) at l) h, g)

  pub respond-refused : Responds port s old area r new area' → (k : ℕ) → r ≡ negsuc k → (new ≡ old) × (area' ≡ area)
  respond-refused a k q =
      line-case ((new ≡ old) × (area' ≡ area)) (port_line port old) (λ n e. ((a.barred n e).1, (a.barred n e).2))
      (λ e.
      let u = kept.stands (none_lent (ltb 1 port) 16 old e) in
      let d = a.answered e u.unit u.holds in
      silent-leaves u.unit u.holds _ refl d.says d.written d.left k q)

-- a step that is denied leaves the unit
acted-leaves : (u : State) (v : Verdict) (m : List Tag) (old new : Slices) (r : ℤ) → Holds u old → r ≡ number_of (judged (acted u v m).answer) → Holds (acted u v m).unit new
    → (k : ℕ) → r ≡ negsuc k → new ≡ old
acted-leaves u Allowed m old new r h w l k q = absurd (well-not w q)
acted-leaves u (Denied n) m old new r h w l k q = holds-unique u new old l h

fit-leaves : (u : State) (x size : ℕ) (mode : Mode) (spf : Bool) (lock : Access) (xs : List ℕ) (old new : Slices) (r : ℤ) → Holds u old → Does (fit_step u x size mode spf lock xs) r new
    → (k : ℕ) → r ≡ negsuc k → new ≡ old
unfolding fit_step
fit-leaves u x size mode spf lock xs old new r h d k q =
    acted-leaves u (verdict u x (Fit (asked x size mode spf lock) (length xs)) Secure lock) (more u (asked x size mode spf lock) xs) old new r h d.says d.left k q

module _ (n : ℕ) (x size : ℕ) (mode : Mode) (spf : Bool) (lock : Access) (xs : List ℕ) (old : Slices) (kept : Kept old.head old.table old.memory) (r : ℤ) (new : Slices) where
  pub fit_refused : Fits n (λ (u : State). fit_step u x size mode spf lock xs) old r new → (k : ℕ) → r ≡ negsuc k → new ≡ old
  fit_refused a k q =
      line-case (new ≡ old) (mode_line n old) (λ m e. (a.barred m e).1)
      (λ e.
      let u = kept.stands (none_lent (ltb 2 n) 16 old e) in
      fit-leaves u.unit x size mode spf lock xs old new r u.holds (a.fitted e u.unit u.holds) k q)

-- ---- the gate

-- an outcome that is refused leaves the slice
abbrev Leaves : Outcome × List ℕ → List ℕ → Type 0
Leaves o old = (n : ℕ) → o.0 ≡ refused n → o.1 ≡ old

gives-leaves : (o : Outcome × List ℕ) (old : List ℕ) {r : ℤ} {new : List ℕ} → Leaves o old → Gives o r new → (k : ℕ) → r ≡ negsuc k → new ≡ old
gives-leaves (done n, x) old h d k q = absurd (well-not d.says q)
gives-leaves (refused n, x) old h d k q = d.area ∙ h n refl

-- one that is picked from two
pick-leaves : (b : Bool) (o p : Outcome × List ℕ) (old : List ℕ) → Leaves o old → Leaves p old → Leaves (cond b o p) old
pick-leaves true o p old h g = h
pick-leaves false o p old h g = g

done-leaves : (n : ℕ) (x old : List ℕ) → Leaves (done n, x) old
done-leaves n x old m e = absurd (cc)

written-leaves : (b : Bool) (x old : List ℕ) → Leaves (written b x old) old
unfolding written
written-leaves true x old = pick-leaves (ltb (length old) (length x)) (refused 300, old) (done (length x), x ++ drop (length x) old) old (λ n e. refl) (done-leaves _ _ old)
written-leaves false x old = λ n e. refl

described-leaves : (b : Bool) (x : Message Body) (old : List ℕ) → Leaves (described b (request_sent x old) old) old
described-leaves true x old = written-leaves (request_writable x) (request_octets x) old
described-leaves false x old = λ n e. refl

filled-leaves : (n : ℕ) (words old : List ℕ) → Leaves (filled n words old) old
unfolding filled
filled-leaves n words old = pick-leaves (ltb (length old) (length words)) (refused 300, old) (done n, words ++ drop (length words) old) old (λ m e. refl) (done-leaves _ _ old)

module _ (old : List ℕ) where
  reply-leaves : (x : Result Reply Fault) → Leaves (reply_filled x old) old
  reply-leaves (Ok (y.Accepted version x)) = filled-leaves (given_kind x) (given_words version x) old
  reply-leaves (Ok (y.Denied version status p)) = filled-leaves 255 (roomless 255 version status 0 p.start p.len) old
  reply-leaves (Err f) = λ n e. refl

  key-leaves : (y : Reading Key) → Leaves (key_filled y old) old
  key-leaves (Ok t) = filled-leaves t.next _ old
  key-leaves (Err f) = λ n e. refl

  memory-leaves : (y : Reading Memory) → Leaves (memory_filled y old) old
  memory-leaves (Ok t) = filled-leaves t.next _ old
  memory-leaves (Err f) = λ n e. refl

  resource-leaves : (y : Reading Resource) → Leaves (resource_filled y old) old
  resource-leaves (Ok t) = filled-leaves t.next _ old
  resource-leaves (Err f) = λ n q. refl

  short-leaves : (s : List ℕ) (o : Outcome × List ℕ) → Leaves o old → Leaves (short s o old) old
  short-leaves s o h = pick-leaves (ltb 2048 (length s)) (refused 16, old) o old (λ n e. refl) h

module _ (old : List ℕ) {r : ℤ} {new : List ℕ} where
  -- the writers of one entry
  pub request-refused : (x : Message Body) → Gives (request_sent x old) r new → (k : ℕ) → r ≡ negsuc k → new ≡ old
  request-refused x d = gives-leaves (request_sent x old) old (written-leaves (request_writable x) (request_octets x) old) d

  -- the writers of lists
  pub bulk-read-refused : (w : Form) (version : ℕ) (tags passwords : List ℕ) → Gives (bulk_read_sent w version tags passwords old) r new → (k : ℕ) → r ≡ negsuc k → new ≡ old
  bulk-read-refused w version tags passwords d =
      gives-leaves _ old (described-leaves (agrees w (length tags) (length passwords)) (request version w (bulk_read (keys_of w tags passwords))) old) d

  pub bulk-write-refused : (w : Form) (version : ℕ) (tags passwords starts lengths octets : List ℕ)
      → Gives (bulk_write_sent w version tags passwords starts lengths octets old) r new → (k : ℕ) → r ≡ negsuc k → new ≡ old
  bulk-write-refused w version tags passwords starts lengths octets d =
      gives-leaves _ old
      (described-leaves (belong w tags passwords starts lengths octets) (request version w (bulk_write (held_of w tags passwords starts lengths octets))) old) d

  -- the readers
  pub read-answer-refused : (s : List ℕ) → ReadsAnswer s old r new → (k : ℕ) → r ≡ negsuc k → new ≡ old
  read-answer-refused s a = gives-leaves _ old (reply-leaves old a.reply) a.gives

  pub read-tag-refused : (s : List ℕ) (at : ℕ) → ReadsTag s at old r new → (k : ℕ) → r ≡ negsuc k → new ≡ old
  read-tag-refused s at a = gives-leaves _ old (short-leaves old s _ (key-leaves old a.entry)) a.gives

  pub read-memory-refused : (s : List ℕ) (at : ℕ) → ReadsMemory s at old r new → (k : ℕ) → r ≡ negsuc k → new ≡ old
  read-memory-refused s at a = gives-leaves _ old (short-leaves old s _ (memory-leaves old a.entry)) a.gives

  pub read-resource-refused : (s : List ℕ) (at : ℕ) → ReadsResource s at old r new → (k : ℕ) → r ≡ negsuc k → new ≡ old
  read-resource-refused s at a = gives-leaves _ old (short-leaves old s _ (resource-leaves old a.entry)) a.gives
