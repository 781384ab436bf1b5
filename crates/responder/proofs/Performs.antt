-- From the reply to an operation to the reply to a request: 7 for more entries than the unit's limit, and else the operation's own; the lines before it.
use Prim.Native.Nat.{ℕ, ◌≤◌, ◌<◌}
use mathlib.Core.Path.{◌≡◌, refl, sym, ap, ◌∙◌}
use mathlib.Core.List.{List}
use native.Mathlib.Omega.{arith}
use Rattle.std.proofs.Common.{rules}
use lib.ListN.{length}
use borrow.Author.Tests.{lt-ltb, le-ltb}
use Rattle.octets.specs.Frame.{Message}
use Rattle.octets.specs.Reading.{Octets, Told, message, refused, told}
use Rattle.octets.specs.declared.Fault.{Fault}
use Rattle.octets.specs.declared.Form.{Form}
use Rattle.octets.specs.declared.Form.TheVariants as f
use Rattle.octets.specs.declared.Port.{Port}
use Rattle.requests.specs.Command.{kind_of, form_at}
use Rattle.requests.specs.Command as c
use Rattle.requests.specs.Request.{Body, request_read}
use Rattle.requests.specs.View.{operation_kind, operation_body, OperationPlace, Understood}
use Rattle.requests.specs.declared.Operation.{Operation}
use Rattle.requests.specs.declared.Operation.TheVariants as o
use Rattle.requests.specs.declared.Request.{Request}
use Rattle.requests.proofs.Readings.{fault-told}
use Rattle.admission.specs.Denial as code
use Rattle.admission.specs.declared.Denial.{Denial}
use Rattle.admission.specs.declared.Head.{Head}
use Rattle.store.specs.Model.{State, Shows, Sound}
use Rattle.responder.specs.Entry.{Sent, word_of, count_of, Sends, Serves, Denies, Responded}
use Rattle.responder.specs.Respond.{Done, denial, deny, entries_of, act, served, number, none, first_lines, handled, respond}
use Rattle.responder.specs.declared.Reply.{Reply}
use Rattle.std.specs.Prelude.{None, Ok, Err}
use Rattle.responder.proofs.Lists.{keys-whole, helds-whole}
use Rattle.responder.proofs.Sends.{version-is}

-- the form is told by the operation type
pub forms : (w : Form) → (form_at (kind_of c.allocate w) ≡ w) × (form_at (kind_of c.free w) ≡ w) × (form_at (kind_of c.read w) ≡ w) × (form_at (kind_of c.write w) ≡ w)
    × (form_at (kind_of c.bulk_read w) ≡ w) × (form_at (kind_of c.bulk_write w) ≡ w)
forms w = search rules

-- a list has as many entries as its count says
pub count-is : (s : List ℕ) (x : Operation) → Octets s → OperationPlace s x → entries_of (operation_body s x) ≡ count_of x
count-is s (o.Resources list) q h = (keys-whole f.Plain s list q h).1
count-is s (o.Allocate x) q h = refl
count-is s (o.Free access tag) q h = refl
count-is s (o.Read access tag) q h = refl
count-is s (o.Write access tag span) q h = refl
count-is s (o.BulkRead w list) q h = (keys-whole w s list q h).1
count-is s (o.BulkWrite w list) q h = (helds-whole w s list q h).1

-- the limit of a list in a sound unit
pub sound-list : (h : Head) (table pool : List ℕ) → Sound h table pool → h.limits.list ≡ 16
sound-list h table pool s = ap (λ (g : Head). g.limits.list) s.shown.head ∙ s.shown.valid.shared.list

-- and of a message
pub sound-message : (h : Head) (table pool : List ℕ) → Sound h table pool → h.limits.message ≡ 2048
sound-message h table pool s = ap (λ (g : Head). g.limits.message) s.shown.head ∙ s.shown.valid.shared.message

-- a denial that is not written yet
pub denies : (u : State) (h : Head) (table pool old : List ℕ) (e : Denial) → Shows u h table pool
    → Denies (deny u (code.number e)) h e old old table pool
denies u h table pool old e s = record { says = rw (version-is s); area = refl; left = s }

-- and is written
pub denied : (d : Done) (h : Head) (e : Denial) (old mid new table pool : List ℕ) (x : Sent)
    → Denies d h e old mid table pool → Sends (denial h.version (code.number e)) x mid new
    → Serves d (record { head = h; sent = x }) old new table pool
denied d h e old mid new table pool x n y = record { sends = rw (← n.says, n.area) at y; left = n.left }

module _ (u : State) (h : Head) (table pool : List ℕ) (d : Shows u h table pool) (p : Port) (s : List ℕ) (v : ℕ)
    (x : Operation) (o : Octets s) (q : OperationPlace s x) where
  -- the request that an operation was read from
  abbrev asked : Told (Message Body)
  asked = message (record { version = v; kind = operation_kind x; body = operation_body s x })

  list-limit : h.limits.list ≡ u.limits.list
  list-limit = ap (λ (g : Head). g.limits.list) d.head

  -- too many entries
  pub performs-seven : h.limits.list < count_of x → served u p asked ≡ deny u 7
  performs-seven l = rw (lt-ltb u.limits.list (entries_of (operation_body s x))
      (omega (arith, list-limit, count-is s x o q)))

  -- an operation that is taken
  pub performs : (z : Operation) (w : Form) → x ≡ z → count_of x ≤ h.limits.list → form_at (operation_kind z) ≡ w
      → served u p asked ≡ act u p w (operation_body s z)
  performs z w g l e = rw (
    le-ltb u.limits.list (entries_of (operation_body s x)) (omega (arith, list-limit, count-is s x o q)),
    g,
    e,
  )

-- ---- the lines before the body

module _ (u : State) (p : Port) (s : List ℕ) where
  -- one denies it
  pub lined : (n : ℕ) → number n ≡ first_lines u s → handled u p s ≡ deny u n
  unfolding handled
  lined n q = rw (← q)

  -- it does not decode
  pub undecoded : (fault : Fault) → none ≡ first_lines u s → Understood s (Err fault) → handled u p s ≡ deny u 16
  unfolding handled
  undecoded fault q g =
      let z : refused 16 fault ≡ told (request_read s) = sym (fault-told fault) ∙ g.says in
      rw (← q, ← z)

  -- it decodes
  pub decoded : (r : Request) → none ≡ first_lines u s → Understood s (Ok r)
      → handled u p s ≡ served u p (message (record
      { version = r.version; kind = operation_kind r.operation; body = operation_body s r.operation }))
  unfolding handled
  decoded r q g = rw (← q, ← g.says)

-- ---- the entry

module _ (u : State) (h : Head) (e : h.limits.message ≡ u.limits.message) (p : Port) (s old : List ℕ) (y : Reply)
    (new table pool : List ℕ) where
  -- an area that is long enough
  replied-by : h.limits.message ≤ length old → Serves (handled u p s) y old new table pool
      → Responded (respond u p s (length old)) y old new table pool
  unfolding respond
  replied-by l d = rw (le-ltb (length old) u.limits.message (omega arith))
      (record { says = ap word_of d.sends.says; area = d.sends.area; left = d.left })

  -- a line before the body denies it
  pub line-so : (n : ℕ) → h.limits.message ≤ length old → number n ≡ first_lines u s → Serves (deny u n) y old new table pool
      → Responded (respond u p s (length old)) y old new table pool
  line-so n l q d = replied-by l (rw (lined u p s n q) d)

  -- it does not decode
  pub bad-so : (fault : Fault) → h.limits.message ≤ length old → none ≡ first_lines u s → Understood s (Err fault)
      → Serves (deny u 16) y old new table pool
      → Responded (respond u p s (length old)) y old new table pool
  bad-so fault l q g d = replied-by l (rw (undecoded u p s fault q g) d)

  -- it decodes
  pub good-so : (r : Request) → h.limits.message ≤ length old → none ≡ first_lines u s → Understood s (Ok r)
      → Serves (served u p (message (record {
        version = r.version;
        kind = operation_kind r.operation;
        body = operation_body s r.operation;
      }))) y old new table pool
      → Responded (respond u p s (length old)) y old new table pool
  good-so r l q g d = replied-by l (rw (decoded u p s r q g) d)

module _ (u : State) (h : Head) (table₀ pool₀ : List ℕ) (x : Shows u h table₀ pool₀) (p : Port) (s old : List ℕ)
    (y : Reply) (new table pool : List ℕ) where
  message-limit : h.limits.message ≡ u.limits.message
  message-limit = ap (λ (g : Head). g.limits.message) x.head

  -- an area that is too short: no answer, and all as it was
  pub silent-so : length old < h.limits.message → y.sent ≡ None → new ≡ old → Shows u y.head table pool
      → Responded (respond u p s (length old)) y old new table pool
  unfolding respond
  silent-so l q n d = rw (lt-ltb (length old) u.limits.message (omega (arith, message-limit)))
      (record { says = ap word_of q; area = n; left = d })

  -- any other
  pub replied-so : h.limits.message ≤ length old → Serves (handled u p s) y old new table pool
      → Responded (respond u p s (length old)) y old new table pool
  replied-so l d = replied-by u h message-limit p s old y new table pool l d
