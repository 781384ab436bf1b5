-- The bodies of answers read back, for every answer's type.
use Prim.Native.Nat.{ℕ, ◌-◌}
use mathlib.Core.Path.{◌≡◌, refl, ap}
use mathlib.Core.Bool.{true, ◌&&◌}
use mathlib.Core.List.{List, ◌++◌}
use lib.Dec.{leb, eqb}
use borrow.Author.Tests.{eq-eqb, eqb-true}
use Rattle.octets.specs.Reading.{ok, Octets}
use Rattle.octets.specs.Layout.{Layout, list_of}
use Rattle.octets.specs.Frame.{sent, encode, writable}
use Rattle.octets.specs.declared.Form.{Form}
use Rattle.octets.specs.declared.Form.TheVariants as f
use Rattle.octets.proofs.Places.{both, both-are}
use Rattle.octets.proofs.Lawful.{Lawful, list_lawful, allowed-lawful, wrap-there, wrap-back}
use Rattle.tags.specs.Entry.{key, memory}
use Rattle.tags.proofs.Entries.{key-lawful, memory-lawful}
use Rattle.resources.specs.Resource.{resources}
use Rattle.resources.proofs.Bodies.{resources-lawful}
use Rattle.requests.specs.Command.{Command, command_number, command_at, known}
use Rattle.requests.specs.Command as c
use Rattle.requests.proofs.Requests.{Listed, same-command}
use Rattle.answers.specs.Answer.{Body, command_of, body_put, body_fits, body_get, body_of, answer_kind, answer_body, accepted, answer, answer_sent}
use Rattle.answers.specs.Answer as b

-- ---- the table of answers' types

-- the type of an operation's answer has its body
pub row : (x : Command) (w : Form) → Listed x w → answer_body (answer_kind x w) ≡ body_of x
unfolding answer_body known
row c.resource_information f.Plain t = refl
row c.resource_information f.Password t = absurd t
row c.allocate f.Plain t = refl
row c.allocate f.Password t = refl
row c.free f.Plain t = refl
row c.free f.Password t = refl
row c.read f.Plain t = refl
row c.read f.Password t = refl
row c.write f.Plain t = refl
row c.write f.Password t = refl
row c.bulk_read f.Plain t = refl
row c.bulk_read f.Password t = refl
row c.bulk_write f.Plain t = refl
row c.bulk_write f.Password t = refl

-- so a body that is written in the frame of its type is the answer written
pub sent-is : (b : Body) (w : Form) → Listed (command_of b) w → {A : Type 0} (L : Layout A) (a : A)
    → L.put a ≡ body_put b → L.fits a ≡ body_fits b
    → {kind : ℕ} → kind ≡ answer_kind (command_of b) w → (version : ℕ) (old : List ℕ)
    → sent L version kind a old ≡ answer_sent (accepted (answer version w b)) old
unfolding sent encode writable
sent-is b w t L a p f k version old =
    rw (k, row (command_of b) w t, p, f, eq-eqb (command_number (command_of b)) (command_number (command_of b)) refl)

-- ---- bodies read back

-- a body that is written reads back, by the row of its command
body-there : (x : Body) (r : List ℕ) → body_fits x ≡ true → body_get (command_of x) (body_put x ++ r) ≡ ok x r
body-there (b.resource_information y) r h = wrap-there b.resource_information resources resources-lawful y r h
body-there (b.allocate y) r h = wrap-there b.allocate (key f.Plain) (key-lawful f.Plain) y r h
body-there (b.free y) r h = wrap-there b.free (key f.Plain) (key-lawful f.Plain) y r h
body-there (b.read y) r h = wrap-there b.read (memory f.Plain) (memory-lawful f.Plain) y r h
body-there (b.write y) r h = wrap-there b.write (key f.Plain) (key-lawful f.Plain) y r h
body-there (b.bulk_read y) r h = wrap-there b.bulk_read (list_of (memory f.Plain)) (list_lawful (memory f.Plain) (memory-lawful f.Plain)) y r h
body-there (b.bulk_write y) r h = wrap-there b.bulk_write (list_of (key f.Plain)) (list_lawful (key f.Plain) (key-lawful f.Plain)) y r h

-- what a row reads is a body of its command, and its octets are those that would be written
body_back : (x : Command) (l : List ℕ) (y : Body) (r : List ℕ) → Octets l → body_get x l ≡ ok y r → (l ≡ body_put y ++ r) × (command_of y ≡ x) × (body_fits y ≡ true)
body_back c.resource_information l y r o e = let z = wrap-back b.resource_information resources resources-lawful l y r o e in rw (← z.is) (z.octets, refl, z.fit)
body_back c.allocate l y r o e = let z = wrap-back b.allocate (key f.Plain) (key-lawful f.Plain) l y r o e in rw (← z.is) (z.octets, refl, z.fit)
body_back c.free l y r o e = let z = wrap-back b.free (key f.Plain) (key-lawful f.Plain) l y r o e in rw (← z.is) (z.octets, refl, z.fit)
body_back c.read l y r o e = let z = wrap-back b.read (memory f.Plain) (memory-lawful f.Plain) l y r o e in rw (← z.is) (z.octets, refl, z.fit)
body_back c.write l y r o e = let z = wrap-back b.write (key f.Plain) (key-lawful f.Plain) l y r o e in rw (← z.is) (z.octets, refl, z.fit)
body_back c.bulk_read l y r o e = let z = wrap-back b.bulk_read (list_of (memory f.Plain)) (list_lawful (memory f.Plain) (memory-lawful f.Plain)) l y r o e in rw (← z.is) (z.octets, refl, z.fit)
body_back c.bulk_write l y r o e = let z = wrap-back b.bulk_write (list_of (key f.Plain)) (list_lawful (key f.Plain) (key-lawful f.Plain)) l y r o e in rw (← z.is) (z.octets, refl, z.fit)

-- so each row obeys the law of layouts
body-lawful : (x : Command) → Lawful (body_of x)
body-lawful x = record {
  there = λ y r h.
      let k = both (eqb (command_number (command_of y)) (command_number x)) (body_fits y) h in
      let e : command_of y ≡ x = same-command (command_of y) x (eqb-true _ _ k.0) in
      rw (← e) (body-there y r k.1);
  back = λ l y r o e.
      let z = body_back x l y r o e in
      (z.0, both-are _ _ (eq-eqb (command_number (command_of y)) (command_number x) (ap command_number z.1)) z.2);
}

-- and so does the body of each answer's type
pub answer-lawful : (kind : ℕ) → Lawful (answer_body kind)
unfolding answer_body
answer-lawful kind = allowed-lawful (leb 128 kind && known (kind - 128)) (body_of (command_at (kind - 128))) (body-lawful (command_at (kind - 128)))
