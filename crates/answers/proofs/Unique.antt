-- The promise of the reader of answers leaves one answer: any two that it allows are equal. It is `Understood`: what an answer says of the octets, and that its span or
-- list ends with them, tell it from every other answer. The promises of the writers are `Does`: does-unique of octets speaks of them.
use mathlib.Core.Bool.{cond}
use Prim.Native.Nat.{ℕ, ◌+◌, ◌<◌}
use mathlib.Core.Path.{◌≡◌, refl, sym, ap, ◌∙◌}
use mathlib.Core.List.{List}
use native.Mathlib.Omega.{arith}
use lib.Dec.{leb}
use borrow.Author.Tests.{le-leb, lt-leb}
use Rattle.octets.specs.Reading.{Octets, Told, message, refused}
use Rattle.std.specs.Prelude.{Result, Ok, Err}
use Rattle.octets.specs.declared.Fault.{Fault}
use Rattle.octets.specs.declared.Form.{Form}
use Rattle.octets.specs.declared.Form.TheVariants as f
use Rattle.octets.specs.declared.Span.{Span}
use Rattle.octets.proofs.Spans.{span_at, list_at, span-is, list-is}
use Rattle.tags.specs.Entry.{key, memory}
use Rattle.tags.proofs.Entries.{key-lawful, memory-lawful}
use Rattle.resources.specs.Resource.{resource}
use Rattle.resources.proofs.Bodies.{resource-lawful}
use Rattle.requests.specs.Command.{form_number}
use Rattle.answers.specs.Answer.{Body, Answer, accepted, denied}
use Rattle.answers.specs.Answer as b
use Rattle.answers.specs.View.{given_kind, given_body, GivenPlace, reply_in, ReplyPlace, Understood}
use Rattle.answers.specs.declared.Given.{Given}
use Rattle.answers.specs.declared.Given.TheVariants as g
use Rattle.answers.specs.declared.Reply.{Reply}
use Rattle.answers.specs.declared.Reply.TheVariants as r

-- ---- the one answer to what the octets s are

-- whether a request was plain, by the answer's type
abbrev answer_form : ℕ → Form
answer_form kind = cond (leb 193 kind) f.Password f.Plain

abbrev placed_given : List ℕ → ℕ → Body → Given
placed_given s kind (b.resource_information x) = g.Resources x.0 (list_at resource s x.1)
placed_given s kind (b.allocate k) = g.Allocate (answer_form kind) k.0
placed_given s kind (b.free k) = g.Free (answer_form kind) k.0
placed_given s kind (b.read h) = g.Read (answer_form kind) h.0.0 (span_at s h.1)
placed_given s kind (b.write k) = g.Write (answer_form kind) k.0
placed_given s kind (b.bulk_read hs) = g.BulkRead (answer_form kind) (list_at (memory f.Plain) s hs)
placed_given s kind (b.bulk_write ks) = g.BulkWrite (answer_form kind) (list_at (key f.Plain) s ks)

abbrev placed : List ℕ → Told Answer → Result Reply Fault
placed s (message (accepted m)) = Ok (r.Accepted m.version (placed_given s m.kind m.body))
placed s (message (denied d)) = Ok (r.Denied d.version d.status (span_at s d.supplement))
placed s (refused n fault) = Err fault

-- ---- every answer is it

-- the type of a command other than resource information tells the form
form-is : (n : ℕ) (w : Form) → 0 < n → n < 7 → answer_form (n + form_number w + 128) ≡ w
form-is n f.Plain h k = rw (lt-leb 193 (n + 0 + 128) (omega arith))
form-is n f.Password h k = rw (le-leb 193 (n + 64 + 128) (omega arith))

module _ (s : List ℕ) where
  module _ (o : Octets s) where
    given_is : (x : Given) → GivenPlace s x → placed_given s (given_kind x) (given_body s x) ≡ x
    given_is (g.Resources x list) h = rw (list-is s resource resource-lawful o list h.0 h.1)
    given_is (g.Allocate w tag) h = rw (form-is 1 w (omega arith) (omega arith))
    given_is (g.Free w tag) h = rw (form-is 2 w (omega arith) (omega arith))
    given_is (g.Read w tag p) h = rw (form-is 3 w (omega arith) (omega arith), span-is s p h)
    given_is (g.Write w tag) h = rw (form-is 4 w (omega arith) (omega arith))
    given_is (g.BulkRead w list) h = rw (form-is 5 w (omega arith) (omega arith), list-is s (memory f.Plain) (memory-lawful f.Plain) o list h.0 h.1)
    given_is (g.BulkWrite w list) h = rw (form-is 6 w (omega arith) (omega arith), list-is s (key f.Plain) (key-lawful f.Plain) o list h.0 h.1)

    reply-is : (x : Result Reply Fault) → ReplyPlace s x → placed s (reply_in s x) ≡ x
    reply-is (Ok (r.Accepted version x)) h = ap (λ (g : Given). Ok (r.Accepted version g)) (given_is x h.1)
    reply-is (Ok (r.Denied version status p)) h = ap (λ (q : Span). Ok (r.Denied version status q)) (span-is s p h.1)
    reply-is (Err fault) h = refl

-- ---- the promises

module _ {s : List ℕ} {x y : Result Reply Fault} (o : Octets s) where
  -- read_answer: one answer or denial with its values and their places, or one fault
  pub answer-unique : Understood s x → Understood s y → x ≡ y
  answer-unique p q = sym (reply-is s o x p.place) ∙ ap (placed s) (p.says ∙ sym q.says) ∙ reply-is s o y q.place
