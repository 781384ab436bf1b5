-- The promise of the reader of requests leaves one answer: any two that it allows are equal.
-- The promises of the writers are `Does`: does-unique of octets speaks of them.
use Prim.Native.Nat.{ℕ}
use mathlib.Core.Path.{◌≡◌, refl, sym, ap, ◌∙◌}
use mathlib.Core.List.{List}
use Rattle.octets.specs.Reading.{Told, message, refused, Octets}
use Rattle.octets.specs.Frame.{Message}
use Rattle.std.specs.Prelude.{Result, Ok, Err}
use Rattle.octets.specs.declared.Fault.{Fault}
use Rattle.octets.specs.declared.Form.TheVariants as f
use Rattle.octets.proofs.Spans.{span_at, list_at, span-is, list-is}
use Rattle.tags.specs.Entry.{key, memory}
use Rattle.tags.proofs.Entries.{key-lawful, memory-lawful}
use Rattle.requests.specs.Command.{kind_of, form_at}
use Rattle.requests.specs.Command as c
use Rattle.requests.specs.Request.{Body}
use Rattle.requests.specs.Request as b
use Rattle.requests.specs.View.{operation_kind, operation_body, OperationPlace, request_in, RequestPlace, Understood}
use Rattle.requests.specs.declared.Operation.{Operation}
use Rattle.requests.specs.declared.Operation.TheVariants as o
use Rattle.requests.specs.declared.Request.{Request}
use Rattle.requests.proofs.Requests.{form-is}

-- ---- the one answer that says a thing of the octets: its spans and lists end where s ends

abbrev placed_body : List ℕ → ℕ → Body → Operation
placed_body s kind (b.resource_information ks) = o.Resources (list_at (key f.Plain) s ks)
placed_body s kind (b.allocate g) = o.Allocate (record { tag = g.tag; mode = g.mode; size = g.size; access = g.access; initial = span_at s g.initial })
placed_body s kind (b.free k) = o.Free k.1 k.0
placed_body s kind (b.read k) = o.Read k.1 k.0
placed_body s kind (b.write h) = o.Write h.0.1 h.0.0 (span_at s h.1)
placed_body s kind (b.bulk_read ks) = o.BulkRead (form_at kind) (list_at (key (form_at kind)) s ks)
placed_body s kind (b.bulk_write hs) = o.BulkWrite (form_at kind) (list_at (memory (form_at kind)) s hs)

abbrev placed : List ℕ → Told (Message Body) → Result Request Fault
placed s (message m) = Ok (record { version = m.version; operation = placed_body s m.kind m.body })
placed s (refused n f) = Err f

-- ---- each answer is that one

-- an operation is told by its type and its body
body_is : (s : List ℕ) (x : Operation) → Octets s → OperationPlace s x → placed_body s (operation_kind x) (operation_body s x) ≡ x
body_is s (o.Resources list) u h = ap o.Resources (list-is s (key f.Plain) (key-lawful f.Plain) u list h.0 h.1)
body_is s (o.Allocate x) u h = let e = span-is s x.initial h in λ i. o.Allocate (record { tag = x.tag; mode = x.mode; size = x.size; access = x.access; initial = e i })
body_is s (o.Free access tag) u h = refl
body_is s (o.Read access tag) u h = refl
body_is s (o.Write access tag p) u h = ap (o.Write access tag) (span-is s p h)
body_is s (o.BulkRead w list) u h =
    rw (form-is c.bulk_read w tt) (ap (o.BulkRead w) (list-is s (key w) (key-lawful w) u list h.0 h.1))
body_is s (o.BulkWrite w list) u h =
    rw (form-is c.bulk_write w tt) (ap (o.BulkWrite w) (list-is s (memory w) (memory-lawful w) u list h.0 h.1))

-- and so is a whole request
request-is : (s : List ℕ) (r : Result Request Fault) → Octets s → RequestPlace s r → placed s (request_in s r) ≡ r
request-is s (Ok q) u h =
    let e = body_is s q.operation u h.1 in λ i. Ok (record { version = q.version; operation = e i })
request-is s (Err f) u h = refl

-- ---- the promises

module _ {s : List ℕ} (u : Octets s) where
  -- read_request: one version and one operation, or one fault
  pub request-unique : {r t : Result Request Fault} → Understood s r → Understood s t → r ≡ t
  request-unique {r} {t} p q = sym (request-is s r u p.place) ∙ ap (placed s) (p.says ∙ sym q.says) ∙ request-is s t u q.place
