-- The bodies of requests read back, for every operation type.
use Prim.Native.Nat.{ℕ}
use mathlib.Core.Path.{◌≡◌, refl, sym, ap, ◌∙◌}
use mathlib.Core.Bool.{true}
use mathlib.Core.List.{List, ◌++◌}
use lib.ListN.{get_or}
use lib.Dec.{eqb}
use borrow.Author.Tests.{eq-eqb, eqb-true}
use Rattle.octets.specs.Reading.{ok, Octets}
use Rattle.octets.specs.Layout.{Layout, list_of}
use Rattle.octets.specs.Frame.{sent, encode, writable}
use Rattle.octets.specs.declared.Form.{Form}
use Rattle.octets.specs.declared.Form.TheVariants as f
use Rattle.octets.proofs.Places.{both, both-are}
use Rattle.octets.proofs.Lawful.{Lawful, list_lawful, allowed-lawful, wrap-there, wrap-back}
use Rattle.tags.specs.Entry.{key, memory}
use Rattle.tags.proofs.Entries.{key-lawful, memory-lawful}
use Rattle.resources.specs.Resource.{allocation}
use Rattle.resources.proofs.Bodies.{allocation-lawful}
use Rattle.requests.specs.Command.{Command, kind_of, command_number, commands, command_at, known, form_at}
use Rattle.requests.specs.Command as c
use Rattle.requests.specs.Request.{Body, command_of, body_put, body_fits, body_get, body_of, request_body, request, request_sent}
use Rattle.requests.specs.Request as b

-- a command is told by its number
at-number : (x : Command) → get_or commands (command_number x) c.resource_information ≡ x
at-number c.resource_information = refl
at-number c.allocate = refl
at-number c.free = refl
at-number c.read = refl
at-number c.write = refl
at-number c.bulk_read = refl
at-number c.bulk_write = refl

-- two commands of one number are one
pub same-command : (x y : Command) → command_number x ≡ command_number y → x ≡ y
same-command x y e = sym (at-number x) ∙ ap (λ (n : ℕ). get_or commands n c.resource_information) e ∙ at-number y

-- ---- the table of operation types

-- a form that an operation has: resource information is always plain
abbrev pub Listed : Command → Form → Type 0
Listed c.resource_information f.Plain = Unit {0}
Listed c.resource_information f.Password = ⊥
Listed x w = Unit {0}

-- its type tells the form
pub form-is : (x : Command) (w : Form) → Listed x w → form_at (kind_of x w) ≡ w
form-is c.resource_information f.Plain t = refl
form-is c.resource_information f.Password t = absurd t
form-is c.allocate f.Plain t = refl
form-is c.allocate f.Password t = refl
form-is c.free f.Plain t = refl
form-is c.free f.Password t = refl
form-is c.read f.Plain t = refl
form-is c.read f.Password t = refl
form-is c.write f.Plain t = refl
form-is c.write f.Password t = refl
form-is c.bulk_read f.Plain t = refl
form-is c.bulk_read f.Password t = refl
form-is c.bulk_write f.Plain t = refl
form-is c.bulk_write f.Password t = refl

-- and has its body
pub row : (x : Command) (w : Form) → Listed x w → request_body (kind_of x w) ≡ body_of x w
unfolding request_body known
row c.resource_information f.Plain t = refl
row c.resource_information f.Password t = absurd t
row c.allocate f.Plain t = refl
row c.allocate f.Password t = refl
row c.free f.Plain t = refl
row c.free f.Password t = refl
row c.read f.Plain t = refl
row c.read f.Password t = refl
row c.write f.Plain t = refl
row c.write f.Password t = refl
row c.bulk_read f.Plain t = refl
row c.bulk_read f.Password t = refl
row c.bulk_write f.Plain t = refl
row c.bulk_write f.Password t = refl

-- so a body that is written in the frame of its type is the request written
pub sent-is : (b : Body) (w : Form) → Listed (command_of b) w → {A : Type 0} (L : Layout A) (a : A)
    → L.put a ≡ body_put w b → L.fits a ≡ body_fits w b → (version : ℕ) (old : List ℕ)
    → sent L version (kind_of (command_of b) w) a old ≡ request_sent (request version w b) old
unfolding sent encode writable
sent-is b w t L a p f version old =
    rw (row (command_of b) w t, p, f, eq-eqb (command_number (command_of b)) (command_number (command_of b)) refl)

-- ---- bodies read back

module _ (w : Form) where
  -- a body that is written reads back
  body-there : (x : Body) (r : List ℕ) → body_fits w x ≡ true → body_get (command_of x) w (body_put w x ++ r) ≡ ok x r
  body-there (b.resource_information ks) r h = wrap-there b.resource_information (list_of (key w)) (list_lawful (key w) (key-lawful w)) ks r h
  body-there (b.allocate g) r h = wrap-there b.allocate (allocation w) (allocation-lawful w) g r h
  body-there (b.free k) r h = wrap-there b.free (key w) (key-lawful w) k r h
  body-there (b.read k) r h = wrap-there b.read (key w) (key-lawful w) k r h
  body-there (b.write m) r h = wrap-there b.write (memory w) (memory-lawful w) m r h
  body-there (b.bulk_read ks) r h = wrap-there b.bulk_read (list_of (key w)) (list_lawful (key w) (key-lawful w)) ks r h
  body-there (b.bulk_write ms) r h = wrap-there b.bulk_write (list_of (memory w)) (list_lawful (memory w) (memory-lawful w)) ms r h

  -- and only what would be written is read, for the command that was asked for
  body_back : (x : Command) (l : List ℕ) (y : Body) (r : List ℕ) → Octets l → body_get x w l ≡ ok y r → (l ≡ body_put w y ++ r) × (command_of y ≡ x) × (body_fits w y ≡ true)
  body_back c.resource_information l y r o e =
      let z = wrap-back b.resource_information (list_of (key w)) (list_lawful (key w) (key-lawful w)) l y r o e in rw (← z.is) (z.octets, refl, z.fit)
  body_back c.allocate l y r o e = let z = wrap-back b.allocate (allocation w) (allocation-lawful w) l y r o e in rw (← z.is) (z.octets, refl, z.fit)
  body_back c.free l y r o e = let z = wrap-back b.free (key w) (key-lawful w) l y r o e in rw (← z.is) (z.octets, refl, z.fit)
  body_back c.read l y r o e = let z = wrap-back b.read (key w) (key-lawful w) l y r o e in rw (← z.is) (z.octets, refl, z.fit)
  body_back c.write l y r o e = let z = wrap-back b.write (memory w) (memory-lawful w) l y r o e in rw (← z.is) (z.octets, refl, z.fit)
  body_back c.bulk_read l y r o e =
      let z = wrap-back b.bulk_read (list_of (key w)) (list_lawful (key w) (key-lawful w)) l y r o e in rw (← z.is) (z.octets, refl, z.fit)
  body_back c.bulk_write l y r o e =
      let z = wrap-back b.bulk_write (list_of (memory w)) (list_lawful (memory w) (memory-lawful w)) l y r o e in rw (← z.is) (z.octets, refl, z.fit)

  -- the body of each command obeys the law of layouts
  pub body-lawful : (x : Command) → Lawful (body_of x w)
  body-lawful x = record {
    there = λ y r h.
        let k = both (eqb (command_number (command_of y)) (command_number x)) (body_fits w y) h in
        let e : command_of y ≡ x = same-command (command_of y) x (eqb-true _ _ k.0) in
        rw (← e) (body-there y r k.1);
    back = λ l y r o e.
        let z = body_back x l y r o e in
        (z.0, both-are _ _ (eq-eqb (command_number (command_of y)) (command_number x) (ap command_number z.1)) z.2);
  }

-- and so does the body of each operation type
pub request-lawful : (kind : ℕ) → Lawful (request_body kind)
unfolding request_body
request-lawful kind = allowed-lawful (known kind) (body_of (command_at kind) (form_at kind)) (body-lawful (form_at kind) (command_at kind))
