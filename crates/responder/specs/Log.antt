-- The store's calls that commands amount to: what a log of requests did to a unit, in the words of the store's history (store/specs/History).
-- An allocation, a free and a write are one call each, a bulk write is its writes in order; everything else, refusals by the first lines too, is none.
use Rattle.std.specs.Prelude.{cond, ℕ, List, [], ◌∷◌, ◌++◌, ltb}
use Rattle.octets.specs.Frame.{Message}
use Rattle.octets.specs.Reading.{Told, message, refused, told}
use Rattle.octets.specs.declared.Port.{Port}
use Rattle.tags.specs.Entry.{Held}
use Rattle.requests.specs.Request.{request_read}
use Rattle.requests.specs.Request as q
use Rattle.admission.specs.Mode.{code_mode, code_spf}
use Rattle.store.specs.Model.{State}
use Rattle.store.specs.History.{Call, allocate, free, write}
use Rattle.responder.specs.Respond.{Line, number, none, first_lines, entries_of, respond}
use Rattle.responder.specs.Demands.{Command}

-- "Entries are taken in the order given, repeats included"
unfoldable pub writes_of : Port → List Held → List Call
writes_of p [] = []
writes_of p (h ∷ hs) = write h.0.0 h.1 p h.0.1 ∷ writes_of p hs

-- the calls of an operation
abbrev pub calls_of : Port → q.Body → List Call
calls_of p (q.resource_information ks) = []
calls_of p (q.allocate g) = allocate g.tag g.size (code_mode g.mode) (code_spf g.mode) p g.access ∷ []
calls_of p (q.free k) = free k.0 p k.1 ∷ []
calls_of p (q.read k) = []
calls_of p (q.write h) = write h.0.0 h.1 p h.0.1 ∷ []
calls_of p (q.bulk_read ks) = []
calls_of p (q.bulk_write hs) = writes_of p hs

-- a request that decodes, with no more entries than a list may have
abbrev pub calls_told : State → Port → Told (Message q.Body) → List Call
calls_told u p (refused n fault) = []
calls_told u p (message m) = cond (ltb u.limits.list (entries_of m.body)) [] (calls_of p m.body)

-- a request that no first line denies
abbrev pub calls_lined : State → Port → List ℕ → Line → List Call
calls_lined u p s (number n) = []
calls_lined u p s none = calls_told u p (told (request_read s))

-- a command: by which port, the octets sent, and the length of the answer area
unfoldable pub calls : State → Port → List ℕ → ℕ → List Call
calls u p s area = cond (ltb area u.limits.message) [] (calls_lined u p s (first_lines u s))

-- commands one after another
unfoldable pub all_calls : State → List Command → List Call
all_calls u [] = []
all_calls u (c ∷ cs) = calls u c.port c.request c.area ++ all_calls (respond u c.port c.request c.area).unit cs
