-- What a write, a free and an allocation keep, the entry keeps: whatever is sent to a unit in order, it is in order afterwards. About the definitions of specs/Respond
-- only; that the steps of the store keep a unit in order is proved there.
use Prim.Native.Nat.{ℕ}
use mathlib.Core.Bool.{Bool}
use mathlib.Core.List.{List, [], ◌∷◌}
use lib.Dec.{ltb}
use Rattle.octets.specs.Frame.{Message}
use Rattle.octets.specs.Reading.{Told, message, refused, told}
use Rattle.octets.specs.declared.Access.{Access}
use Rattle.octets.specs.declared.Form.{Form}
use Rattle.octets.specs.declared.Port.{Port}
use Rattle.tags.specs.Entry.{Held}
use Rattle.requests.specs.Command.{form_at}
use Rattle.requests.specs.Request.{request_read}
use Rattle.requests.specs.Request as q
use Rattle.answers.specs.Answer as b
use Rattle.admission.specs.Mode.{code_spf, code_mode}
use Rattle.admission.specs.declared.Mode.{Mode}
use Rattle.admission.specs.Denial.{Verdict, Allowed, Denied}
use Rattle.store.specs.Model.{State, Valid}
use Rattle.store.specs.Steps.{Step, Content, content, read_step, write_step, free_step, allocate_step}
use Rattle.store.specs.Steps as s
use Rattle.store.proofs.Valid as valid
use Rattle.responder.specs.Respond.{Done, named, deny, stepped, judged, shown, allocate_done, free_done, write_done, read_done, resources_done, bulk_read_done, Writes, one_write, all_writes, bulk_write_done, act, entries_of, served, Line, number, none, lined, first_lines, handled, Out, respond}
use Rattle.responder.proofs.Statuses.{either}

module _
    (P : State → Type 0)
    (write : (u : State) (x : ℕ) (xs : List ℕ) (p : Port) (a : Access) → P u → P (write_step u x xs p a).unit)
    (free : (u : State) (x : ℕ) (p : Port) (a : Access) → P u → P (free_step u x p a).unit)
    (allocate : (u : State) (x size : ℕ) (mode : Mode) (spf : Bool) (p : Port) (a : Access) → P u → P (allocate_step u x size mode spf p a).unit)
  where
    -- the answer to a step leaves what the step leaves
    stepped-keeps : (u : State) (w : Form) (body : b.Body) (step : Step) → P step.unit → P (stepped u w body step).unit
    stepped-keeps u w body step h = go step.answer
      where
        go : (v : Verdict) → P (judged u w body v step.unit).unit
        go Allowed = h
        go (Denied d) = h

    -- a read leaves all
    shown-keeps : (u : State) (w : Form) (x : ℕ) (c : Content) → P u → P (shown u w x c).unit
    shown-keeps u w x (content xs) h = h
    shown-keeps u w x (s.denied d) h = h

    -- writes one after another
    writes-keep : (p : Port) (e : Writes) (hs : List Held) → P e.unit → P (all_writes p e hs).unit
    unfolding all_writes
    writes-keep p e [] h = h
    writes-keep p e (y ∷ hs) h = writes-keep p (one_write p e y) hs (write e.unit y.0.0 y.1 p y.0.1 h)

    -- every operation
    pub act-keeps : (u : State) (p : Port) (w : Form) (body : q.Body) → P u → P (act u p w body).unit
    unfolding act resources_done allocate_done free_done read_done write_done bulk_read_done bulk_write_done
    act-keeps u p w (q.resource_information ks) h = h
    act-keeps u p w (q.allocate g) h =
        stepped-keeps u w (b.allocate (named g.tag)) (allocate_step u g.tag g.size (code_mode g.mode) (code_spf g.mode) p g.access)
        (allocate u g.tag g.size (code_mode g.mode) (code_spf g.mode) p g.access h)
    act-keeps u p w (q.free k) h = stepped-keeps u w (b.free (named k.0)) (free_step u k.0 p k.1) (free u k.0 p k.1 h)
    act-keeps u p w (q.read k) h = shown-keeps u w k.0 (read_step u k.0 p k.1) h
    act-keeps u p w (q.write y) h = stepped-keeps u w (b.write (named y.0.0)) (write_step u y.0.0 y.1 p y.0.1) (write u y.0.0 y.1 p y.0.1 h)
    act-keeps u p w (q.bulk_read ks) h = h
    act-keeps u p w (q.bulk_write hs) h = writes-keep p (record { names = []; unit = u }) hs h

    -- a request that decodes, and one that does not
    served-keeps : (u : State) (p : Port) (r : Told (Message q.Body)) → P u → P (served u p r).unit
    served-keeps u p (refused n fault) h = h
    served-keeps u p (message m) h =
        either (λ (d : Done). P d.unit) (ltb u.limits.list (entries_of m.body)) (deny u 7) _ h (act-keeps u p (form_at m.kind) m.body h)

    -- the lines before the body
    lined-keeps : (u : State) (p : Port) (s : List ℕ) (l : Line) → P u → P (lined u p s l).unit
    lined-keeps u p s (number n) h = h
    lined-keeps u p s none h = served-keeps u p (told (request_read s)) h

    -- the entry
    pub respond-keeps : (u : State) (p : Port) (s : List ℕ) (area : ℕ) → P u → P (respond u p s area).unit
    unfolding respond handled
    respond-keeps u p s area h = either (λ (o : Out). P o.unit) (ltb area u.limits.message) _ _ h (lined-keeps u p s (first_lines u s) h)

-- a unit in order is left in order
pub respond-valid : (u : State) (p : Port) (s : List ℕ) (area : ℕ) → Valid u → Valid (respond u p s area).unit
respond-valid = respond-keeps Valid valid.write-valid valid.free-valid valid.allocate-valid
