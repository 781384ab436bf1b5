-- Refusals: a denial and a silence leave the unit as it was; which numbers a denial has, and which it never has; 5 by an allocation only; 300 exactly where the
-- answer area is shorter than a message. Document 01, 'Denials and their order'.
use Prim.Native.Nat.{ℕ, ◌<◌}
use mathlib.Core.Path.{◌≡◌, refl, sym, ap, ◌∙◌}
use mathlib.Core.Bool.{Bool, true, false, cond}
use mathlib.Core.List.{List, [], ◌∷◌}
use lib.ListN.{length}
use lib.Dec.{eqb, ltb}
use borrow.Author.Tests.{eq-eqb, lt-ltb, ltb-true}
use Rattle.octets.specs.Reading.{Read, bad, ok, message, told}
use Rattle.octets.specs.Frame.{Message}
use Rattle.octets.specs.declared.Access.{Access}
use Rattle.octets.specs.declared.Form.{Form}
use Rattle.octets.specs.declared.Port.{Port}
use Rattle.octets.proofs.Places.{false-true}
use Rattle.resources.specs.Resource.{Grant}
use Rattle.requests.specs.Command.{form_at}
use Rattle.requests.specs.Request.{request_read}
use Rattle.requests.specs.Request as q
use Rattle.answers.specs.Answer.{accepted, denied, answer}
use Rattle.answers.specs.Answer as b
use Rattle.answers.specs.Denial.{Denial}
use Rattle.admission.specs.Admission.{room_bars}
use Rattle.admission.specs.Mode.{code_mode, code_spf}
use Rattle.admission.specs.Want.{Want}
use Rattle.admission.specs.Want as want
use Rattle.admission.specs.Denial.{Verdict, Allowed, Denied}
use Rattle.admission.proofs.Admitted
use Rattle.store.specs.Model.{State, head_of}
use Rattle.store.specs.Steps.{Step, registered, known_of, verdict, held_by, content_by, write_step, free_step, allocate_step, read_step}
use Rattle.store.proofs.Told
use Rattle.store.specs.History as c
use Rattle.store.proofs.Theorems.{refused-keeps}
use Rattle.responder.specs.Respond.{Done, denial, deny, named, judged, stepped, allocate_done, free_done, write_done, shown, read_done, resources_done, bulk_read_done, bulk_write_done, act, Line, number, first_lines, entries_of, served, lined, handled, silent, replied, sent, respond}
use Rattle.responder.specs.Respond as r
use Rattle.responder.specs.Demands.{DenialKeeps, SilenceKeeps}
use Rattle.responder.proofs.Statuses.{statuses, among, verdict-listed, early-status, early-five, Listed, allocate-listed, free-listed, write-listed, ListedLine, lines-listed}

-- ---- what becomes of a request

-- it is denied by one of the statuses, with all left as it was, by 5 only where F holds; or it is answered
data Said (u : State) (F : Type 0) (d : Done) : Type 0 where
  refuses : (n : ℕ) → among n statuses ≡ true → (n ≡ 5 → F) → d ≡ deny u n → Said u F d
  answers : (m : Message b.Body) → d.reply ≡ accepted m → Said u F d

-- by a number that is not 5
refuses-by : (u : State) (F : Type 0) (n : ℕ) → among n statuses ≡ true → eqb n 5 ≡ false → Said u F (deny u n)
refuses-by u F n l h = refuses n l (λ e. absurd (false-true (sym h ∙ eq-eqb n 5 e))) refl

-- a step of the store that leaves all as it was where it is denied
stepped-said : (u : State) (F : Type 0) (w : Form) (x : b.Body) (t : Step) → Listed t.answer → ((n : ℕ) → t.answer ≡ Denied n → t.unit ≡ u) → (t.answer ≡ Denied 5 → F)
    → Said u F (stepped u w x t)
stepped-said u F w x t l k h = go t.answer refl l
  where
    go : (v : Verdict) → t.answer ≡ v → Listed v → Said u F (judged u w x v t.unit)
    go Allowed e l = answers (answer u.version w x) refl
    go (Denied n) e l =
        refuses n l (λ z. h (e ∙ ap (λ (i : ℕ). Denied i) z)) (ap (λ (a : State). record { reply = denial u.version n; unit = a }) (k n e))

module _ (u : State) (x : ℕ) (p : Port) (a : Access) where
  -- 5 is no number of a want without room to ask for
  never-five : (w : Want) → room_bars (head_of u) w ≡ false → verdict u x w p a ≡ Denied 5 → ⊥
  never-five w h e = Admitted.five-else (head_of u) p a (known_of (registered u x)) w h e

  -- of a free
  free-five : (free_step u x p a).answer ≡ Denied 5 → ⊥
  unfolding free_step
  free-five e = never-five want.Free refl (sym (Told.answer-is u (verdict u x want.Free p a) _) ∙ e)

  -- of a write
  write-five : (xs : List ℕ) → (write_step u x xs p a).answer ≡ Denied 5 → ⊥
  unfolding write_step
  write-five xs e = never-five (want.Write (length xs)) refl (sym (Told.answer-is u (verdict u x (want.Write (length xs)) p a) _) ∙ e)

  -- a read
  read-said : (F : Type 0) (w : Form) → Said u F (shown u w x (read_step u x p a))
  unfolding read_step
  read-said F w = go (verdict u x want.Read p a) refl (verdict-listed u x p a want.Read)
    where
      go : (v : Verdict) → verdict u x want.Read p a ≡ v → Listed v → Said u F (shown u w x (content_by v (held_by (registered u x))))
      go Allowed e l = answers (answer u.version w (b.read (named x, held_by (registered u x)))) refl
      go (Denied n) e l = refuses n l (λ z. absurd (never-five want.Read refl (e ∙ ap (λ (i : ℕ). Denied i) z))) refl

-- any operation
act-said : (u : State) (p : Port) (w : Form) (F : Type 0) (x : q.Body) → ((g : Grant) → x ≡ q.allocate g → F) → Said u F (act u p w x)
unfolding act allocate_done free_done read_done write_done resources_done bulk_read_done bulk_write_done
act-said u p w F (q.resource_information ks) h = answers _ refl
act-said u p w F (q.allocate g) h =
    let mode = code_mode g.mode in
    let spf = code_spf g.mode in
    stepped-said u F w (b.allocate (named g.tag)) (allocate_step u g.tag g.size mode spf p g.access)
    (allocate-listed u g.tag p g.access g.size mode spf)
    (refused-keeps u (c.allocate g.tag g.size mode spf p g.access))
    (λ e. h g refl)
act-said u p w F (q.free k) h =
    stepped-said u F w (b.free (named k.0)) (free_step u k.0 p k.1) (free-listed u k.0 p k.1) (refused-keeps u (c.free k.0 p k.1))
    (λ e. absurd (free-five u k.0 p k.1 e))
act-said u p w F (q.read k) h = read-said u k.0 p k.1 F w
act-said u p w F (q.write i) h =
    stepped-said u F w (b.write (named i.0.0)) (write_step u i.0.0 i.1 p i.0.1) (write-listed u i.0.0 p i.0.1 i.1)
    (refused-keeps u (c.write i.0.0 i.1 p i.0.1))
    (λ e. absurd (write-five u i.0.0 p i.0.1 i.1 e))
act-said u p w F (q.bulk_read ks) h = answers _ refl
act-said u p w F (q.bulk_write hs) h = answers _ refl

-- a request that decodes, or 16
served-said : (u : State) (p : Port) (F : Type 0) (t : Read (Message q.Body)) → ((m : Message q.Body) (g : Grant) → told t ≡ message m → m.body ≡ q.allocate g → F)
    → Said u F (served u p (told t))
served-said u p F (bad t) h = refuses-by u F 16 refl refl
served-said u p F (ok m t) h = go (ltb u.limits.list (entries_of m.body))
  where
    go : (c : Bool) → Said u F (cond c (deny u 7) (act u p (form_at m.kind) m.body))
    go true = refuses-by u F 7 refl refl
    go false = act-said u p (form_at m.kind) F m.body (λ g. h m g refl)

-- the request is an allocation
pub record Allocation (s : List ℕ) : Type 0 where
  pub request : Message q.Body
  pub grant : Grant
  pub reads : told (request_read s) ≡ message request
  pub is : request.body ≡ q.allocate grant

-- any request
handled-said : (u : State) (p : Port) (s : List ℕ) → Said u (Allocation s) (handled u p s)
unfolding handled
handled-said u p s = go (first_lines u s) (lines-listed u s)
  where
    go : (l : Line) → ListedLine l → Said u (Allocation s) (lined u p s l)
    go (number n) h = refuses-by u (Allocation s) n (early-status n h) (early-five n h)
    go r.none h = served-said u p (Allocation s) (request_read s) (λ m g e i. record { request = m; grant = g; reads = e; is = i })

-- ---- denials

-- what a denial tells: one of the statuses, by 5 an allocation, and all left as it was
pub record Refused (u : State) (s : List ℕ) (d : Denial) (after : State) : Type 0 where
  pub listed : among d.status statuses ≡ true
  pub five : d.status ≡ 5 → Allocation s
  pub kept : after ≡ u

-- an answer is no denial
answer-not : {m : Message b.Body} {d : Denial} → accepted m ≡ denied d → ⊥
answer-not e = cc

-- one denial has one status
status-is : {d e : Denial} → denied d ≡ denied e → d.status ≡ e.status
status-is e = cc

-- of what was said
said-refused : (u : State) (s : List ℕ) (o : Done) (d : Denial) → Said u (Allocation s) o → o.reply ≡ denied d → Refused u s d o.unit
said-refused u s o d (refuses n l f e) h =
    let q : n ≡ d.status = status-is (ap (λ (i : Done). i.reply) (sym e) ∙ h) in
    record { listed = rw (← q) l; five = λ z. f (q ∙ z); kept = ap (λ (i : Done). i.unit) e }
said-refused u s o d (answers m e) h = absurd (answer-not (sym e ∙ h))

-- of every reply that is a denial
pub refused-is : (u : State) (p : Port) (s : List ℕ) (area : ℕ) (d : Denial) → (respond u p s area).result ≡ replied (denied d) → Refused u s d (respond u p s area).unit
unfolding respond
refused-is u p s area d e = go (ltb area u.limits.message) e
  where
    go : (t : Bool) → (cond t (record { result = silent 300; unit = u }) (sent (handled u p s))).result ≡ replied (denied d)
        → Refused u s d (cond t (record { result = silent 300; unit = u }) (sent (handled u p s))).unit
    go true q = cc
    go false q = said-refused u s (handled u p s) d (handled-said u p s) cc

-- "A refusal changes no tag": a denial leaves the unit as it was
pub denial-keeps : DenialKeeps
denial-keeps u p s area d e = (refused-is u p s area d e).kept

module _ (u : State) (p : Port) (s : List ℕ) (area : ℕ) (d : Denial) (e : (respond u p s area).result ≡ replied (denied d)) where
  -- the status of a denial is 4, 5, 6, 7, 8, 9, 10, 11, 12 or 16
  pub denials-are : among d.status (4 ∷ 5 ∷ 6 ∷ 7 ∷ 8 ∷ 9 ∷ 10 ∷ 11 ∷ 12 ∷ 16 ∷ []) ≡ true
  denials-are = (refused-is u p s area d e).listed

  -- so it is no other
  pub not-given : (n : ℕ) → among n statuses ≡ false → d.status ≡ n → ⊥
  not-given n h q = false-true (sym h ∙ ap (λ (i : ℕ). among i statuses) (sym q) ∙ denials-are)

  -- "Statuses 1, 2, 3 and 255 are never given by this unit."
  pub never-given : (d.status ≡ 1 → ⊥) × (d.status ≡ 2 → ⊥) × (d.status ≡ 3 → ⊥) × (d.status ≡ 255 → ⊥)
  never-given = (not-given 1 refl, not-given 2 refl, not-given 3 refl, not-given 255 refl)

  -- "5 is given in no other case": only by an allocation
  pub five-by-allocation : d.status ≡ 5 → Allocation s
  five-by-allocation = (refused-is u p s area d e).five

-- ---- silence

module _ (u : State) (p : Port) (s : List ℕ) (area : ℕ) where
  -- the only number without an answer is 300, and all is left as it was
  silence : (n : ℕ) → (respond u p s area).result ≡ silent n → (n ≡ 300) × (area < u.limits.message) × ((respond u p s area).unit ≡ u)
  unfolding respond
  silence n e = go (ltb area u.limits.message) refl e
    where
      go : (t : Bool) → ltb area u.limits.message ≡ t → (cond t (record { result = silent 300; unit = u }) (sent (handled u p s))).result ≡ silent n
          → (n ≡ 300) × (area < u.limits.message) × ((cond t (record { result = silent 300; unit = u }) (sent (handled u p s))).unit ≡ u)
      go true t q = let z : 300 ≡ n = cc in (sym z, ltb-true _ _ t, refl)
      go false t q = cc

  -- the only number that is given to the caller without an answer is 300
  pub silent-300 : (n : ℕ) → (respond u p s area).result ≡ silent n → n ≡ 300
  silent-300 n e = (silence n e).0

  -- exactly where the area is shorter than a message may be
  pub silent-exactly : ((respond u p s area).result ≡ silent 300 → area < u.limits.message) × (area < u.limits.message → (respond u p s area).result ≡ silent 300)
  unfolding respond
  silent-exactly = (λ e. (silence 300 e).1, λ h. rw (lt-ltb area u.limits.message h))

-- no answer, nothing changed
pub silence-keeps : SilenceKeeps
silence-keeps u p s area n e = (silence u p s area n e).2
