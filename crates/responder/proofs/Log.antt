-- Logs of requests: what a command does to a unit is what the store's calls do that it amounts to, and so over any log. Document 01, 'Lists': "The octets in use always
-- equal the sizes granted less the sizes freed over the unit's history"; 'Sizes': a unit is always what a start gave and the operations then changed.
use Prim.Native.Nat.{ℕ, ◌+◌, ◌≤◌}
use mathlib.Core.Path.{◌≡◌, refl, sym, ap, ◌∙◌}
use mathlib.Core.Bool.{Bool, true, false, cond}
use mathlib.Core.List.{List, [], ◌∷◌, ◌++◌}
use lib.Dec.{ltb}
use lib.ListN.{length}
use Rattle.octets.specs.Frame.{Message}
use Rattle.octets.specs.Reading.{Told, message, refused, told}
use Rattle.octets.specs.declared.Form.{Form}
use Rattle.octets.specs.declared.Port.{Port}
use Rattle.tags.specs.Entry.{Held}
use Rattle.requests.specs.Command.{form_at}
use Rattle.requests.specs.Request.{request_read}
use Rattle.requests.specs.Request as q
use Rattle.answers.specs.Answer as b
use Rattle.admission.specs.Mode.{code_mode, code_spf}
use Rattle.admission.specs.declared.Limits.{Limits}
use Rattle.admission.specs.Denial.{Verdict, Allowed, Denied}
use Rattle.store.specs.Model.{State, new_unit, total, Shared, Valid, Sound}
use Rattle.store.specs.Steps.{Step, Content, content, write_step, free_step, allocate_step, read_step}
use Rattle.store.specs.Steps as s
use Rattle.store.specs.History.{Call, after, after_all, all_granted, all_freed}
use Rattle.store.proofs.History.{history}
use Rattle.store.proofs.Valid.{new-valid, reached-valid}
use Rattle.responder.specs.Respond.{named, deny, judged, stepped, allocate_done, free_done, write_done, shown, read_done, resources_done, bulk_read_done, Writes, one_write, all_writes, bulk_write_done, act, Line, number, none, first_lines, entries_of, served, lined, handled, silent, sent, respond}
use Rattle.responder.specs.Demands.{Command, final}
use Rattle.responder.specs.Entry.{Responded}
use Rattle.responder.specs.declared.Reply.{Reply}
use Rattle.responder.specs.Log.{writes_of, calls_of, calls_told, calls_lined, calls, all_calls}

-- ---- one command

-- the answer to a step leaves what the step leaves
stepped-unit : (u : State) (w : Form) (x : b.Body) (t : Step) → (stepped u w x t).unit ≡ t.unit
stepped-unit u w x t = go t.answer
  where
    go : (v : Verdict) → (judged u w x v t.unit).unit ≡ t.unit
    go Allowed = refl
    go (Denied n) = refl

-- a read leaves all
shown-unit : (u : State) (w : Form) (x : ℕ) (c : Content) → (shown u w x c).unit ≡ u
shown-unit u w x (content xs) = refl
shown-unit u w x (s.denied n) = refl

-- a bulk write is its writes
writes-calls : (p : Port) (e : Writes) (hs : List Held) → (all_writes p e hs).unit ≡ after_all e.unit (writes_of p hs)
unfolding all_writes writes_of after_all
writes-calls p e [] = refl
writes-calls p e (h ∷ hs) = writes-calls p (one_write p e h) hs

-- an operation is its calls
act-calls : (u : State) (p : Port) (w : Form) (x : q.Body) → (act u p w x).unit ≡ after_all u (calls_of p x)
unfolding act resources_done allocate_done free_done read_done write_done bulk_read_done bulk_write_done after_all
act-calls u p w (q.resource_information ks) = refl
act-calls u p w (q.allocate g) =
    stepped-unit u w (b.allocate (named g.tag)) (allocate_step u g.tag g.size (code_mode g.mode) (code_spf g.mode) p g.access)
act-calls u p w (q.free k) = stepped-unit u w (b.free (named k.0)) (free_step u k.0 p k.1)
act-calls u p w (q.read k) = shown-unit u w k.0 (read_step u k.0 p k.1)
act-calls u p w (q.write h) = stepped-unit u w (b.write (named h.0.0)) (write_step u h.0.0 h.1 p h.0.1)
act-calls u p w (q.bulk_read ks) = refl
act-calls u p w (q.bulk_write hs) = writes-calls p (record { names = []; unit = u }) hs

-- a request that decodes, and one that does not
served-calls : (u : State) (p : Port) (t : Told (Message q.Body)) → (served u p t).unit ≡ after_all u (calls_told u p t)
unfolding after_all
served-calls u p (refused n fault) = refl
served-calls u p (message m) = go (ltb u.limits.list (entries_of m.body))
  where
    go : (c : Bool) → (cond c (deny u 7) (act u p (form_at m.kind) m.body)).unit ≡ after_all u (cond c [] (calls_of p m.body))
    go true = refl
    go false = act-calls u p (form_at m.kind) m.body

-- the first lines
lined-calls : (u : State) (p : Port) (s : List ℕ) (l : Line) → (lined u p s l).unit ≡ after_all u (calls_lined u p s l)
unfolding after_all
lined-calls u p s (number n) = refl
lined-calls u p s none = served-calls u p (told (request_read s))

-- a command does what its calls do
pub respond-calls : (u : State) (p : Port) (s : List ℕ) (area : ℕ) → (respond u p s area).unit ≡ after_all u (calls u p s area)
unfolding respond calls handled after_all
respond-calls u p s area = go (ltb area u.limits.message)
  where
    go : (c : Bool) → (cond c (record { result = silent 300; unit = u }) (sent (handled u p s))).unit ≡ after_all u (cond c [] (calls_lined u p s (first_lines u s)))
    go true = refl
    go false = lined-calls u p s (first_lines u s)

-- ---- logs

-- calls behind calls
pub after-append : (u : State) (a c : List Call) → after_all u (a ++ c) ≡ after_all (after_all u a) c
unfolding after_all
after-append u [] c = refl
after-append u (x ∷ a) c = after-append (after u x) a c

-- what the entry leaves is what it asks for
pub responded-sound : (u : State) (p : Port) (s old new table pool : List ℕ) (r : Reply) → Responded (respond u p s (length old)) r old new table pool → Sound r.head table pool
responded-sound u p s old new table pool r h = record { unit = (respond u p s (length old)).unit; shown = h.left }

-- a log does what its calls do
pub final-calls : (u : State) (cs : List Command) → final u cs ≡ after_all u (all_calls u cs)
unfolding final all_calls after_all
final-calls u [] = refl
final-calls u (c ∷ cs) =
    let v = (respond u c.port c.request c.area).unit in
    final-calls v cs
    ∙ ap (λ (x : State). after_all x (all_calls v cs)) (respond-calls u c.port c.request c.area)
    ∙ sym (after-append u (calls u c.port c.request c.area) (all_calls v cs))

module _ (l : Limits) (v : ℕ) (a p : Bool) (cs : List Command) (s : Shared l) (h : v ≤ 15) where
  -- the calls of a log on a new unit
  abbrev pub log : List Call
  log = all_calls (new_unit l v a p) cs

  -- from a start, over any log: the octets in use and those freed are those granted
  pub log-history : total (final (new_unit l v a p) cs).tags + all_freed (new_unit l v a p) log ≡ all_granted (new_unit l v a p) log
  log-history = rw (final-calls (new_unit l v a p) cs) (history l v a p log s h)

  -- and the unit is in order
  pub log-sound : Valid (final (new_unit l v a p) cs)
  log-sound = rw (final-calls (new_unit l v a p) cs) (reached-valid (new_unit l v a p) log (new-valid l v a p s h))
