-- Demand 3. `v` is always `u` with another record of the protected tag, `swap x t u`, so each law says: what is done to the one unit, done to the other, gives the same
-- reply and leaves the same unit, but for that record. From the operations up to sequences of commands; the store's steps are in Alike.
use Prim.Native.Nat.{ℕ}
use mathlib.Core.Path.{◌≡◌, refl, sym, ap, ◌∙◌}
use mathlib.Core.Bool.{Bool, true, false, cond}
use mathlib.Core.List.{List, [], ◌∷◌}
use lib.ListN.{length}
use lib.Dec.{ltb}
use Rattle.octets.specs.Frame.{Message}
use Rattle.octets.specs.Reading.{Told, message, refused, told}
use Rattle.octets.specs.declared.Access.TheVariants.{Plain, Password}
use Rattle.octets.specs.declared.Form.{Form}
use Rattle.octets.specs.declared.Port.{Port}
use Rattle.tags.specs.Entry.{Keyed, Held}
use Rattle.resources.specs.declared.Resource.{Resource}
use Rattle.requests.specs.Command.{form_at}
use Rattle.requests.specs.Request.{request_read}
use Rattle.requests.specs.Request as q
use Rattle.answers.specs.Answer as answers
use Rattle.admission.specs.Mode.{code_spf, code_mode}
use Rattle.admission.specs.declared.Head.{Head}
use Rattle.admission.specs.Denial.{Verdict, Allowed, Denied}
use Rattle.store.specs.Model.{State, Tag, Valid, Shows}
use Rattle.store.specs.Steps.{registered, Step, Content, content, read_step, write_step, free_step, allocate_step}
use Rattle.store.specs.Steps as steps
use Rattle.responder.specs.Entry.{word_of, word_for, area_for}
use Rattle.responder.specs.Respond.{Done, named, deny, stepped, judged, shown, allocate_done, free_done, write_done, read_done, told_of, all_told, resources_done, given, all_reads, bulk_read_done, Writes, one_write, all_writes, bulk_write_done, act, entries_of, served, Line, number, none, lined, first_lines, handled, Result, Out, respond}
use Rattle.responder.specs.Demands.{Command, results, final, Protected, Twins, carried_of, carried, Spares, SparesAll, SparesTold, Clean, Secret, StillSecret, Sending, commands_of, Did, Ran, SecretRuns, AllPlain, PlainTold, NoPlainWrite, NoPlainRead}
use Rattle.responder.specs.Entry.{Sent}
use Rattle.std.specs.Prelude.{Some, None}
use Rattle.responder.proofs.Alike.{swap, swap_step, Holds}
use Rattle.responder.proofs.Alike

-- two pairs alike: either of the one pair is like that of the other
either_same : {A : Type 0} (R : A → A → Type 0) (c : Bool) (d e d' e' : A) → R d d' → R e e' → R (cond c d e) (cond c d' e')
either_same R true d e d' e' h k = h
either_same R false d e d' e' h k = k

module _ (x : ℕ) (s t : Tag) where
  -- what is done in both: the same reply, the same unit left but for the record t in place of s
  record Same (d d' : Done) : Type 0 where
    reply : d'.reply ≡ d.reply
    left : d'.unit ≡ swap x t d.unit
    holds : Holds x s d.unit

  -- what comes out of both
  pub record SameOut (o o' : Out) : Type 0 where
    pub result : o'.result ≡ o.result
    pub left : o'.unit ≡ swap x t o.unit
    pub holds : Holds x s o.unit

  -- writes one after another
  record SameWrites (e e' : Writes) : Type 0 where
    names : e'.names ≡ e.names
    left : e'.unit ≡ swap x t e.unit
    holds : Holds x s e.unit

  -- what each unit says to commands one after another, and what it is then
  pub record SameAll (u v : State) (cs : List Command) : Type 0 where
    pub replies : results v cs ≡ results u cs
    pub left : final v cs ≡ swap x t (final u cs)
    pub holds : Holds x s (final u cs)

module _ (x : ℕ) (s t : Tag) (a b : ℕ) (c : Protected s t a b) where
  -- ---- operations

  -- a step of the store is answered alike
  stepped_same : (u : State) (w : Form) (body : answers.Body) (e e' : Step) → e' ≡ swap_step x t e → Holds x s e.unit
      → Same x s t (stepped u w body e) (stepped (swap x t u) w body e')
  stepped_same u w body e e' i h = rw i (go e.answer)
    where
      go : (v : Verdict) → Same x s t (judged u w body v e.unit) (judged (swap x t u) w body v (swap x t e.unit))
      go Allowed = record { reply = refl; left = refl; holds = h }
      go (Denied d) = record { reply = refl; left = refl; holds = h }

  -- what is read is shown alike
  shown-same : (u : State) (w : Form) (y : ℕ) (e : Content) → Holds x s u → Same x s t (shown u w y e) (shown (swap x t u) w y e)
  shown-same u w y (content xs) h = record { reply = refl; left = refl; holds = h }
  shown-same u w y (steps.denied d) h = record { reply = refl; left = refl; holds = h }

  -- of the tags in a list the same is told
  told-all : (u : State) (rs : List Resource) (ks : List Keyed) → Holds x s u → all_told (swap x t u) rs ks ≡ all_told u rs ks
  unfolding all_told
  told-all u rs [] h = refl
  told-all u rs (k ∷ ks) h =
      ap (λ (z : List Resource). all_told (swap x t u) z ks) (Alike.told_same x s t a b c u h k.0 rs) ∙ told-all u (told_of (registered u k.0) rs) ks h

  -- of the tags in a list the same is read
  read_all : (u : State) (p : Port) (hs : List Held) (ks : List Keyed) → Holds x s u → SparesAll x a b ks
      → all_reads (swap x t u) p hs ks ≡ all_reads u p hs ks
  unfolding all_reads SparesAll
  read_all u p hs [] h n = refl
  read_all u p hs (k ∷ ks) h n =
      ap (λ (z : Content). all_reads (swap x t u) p (given hs k.0 z) ks) (Alike.read-swap x s t a b c u h p k.0 k.1 n.0)
      ∙ read_all u p (given hs k.0 (read_step u k.0 p k.1)) ks h n.1

  -- one write of a list
  write-one : (p : Port) (e e' : Writes) (y : Held) → SameWrites x s t e e' → Spares x a b y.0 → SameWrites x s t (one_write p e y) (one_write p e' y)
  write-one p e e' y h n =
      let w : write_step e'.unit y.0.0 y.1 p y.0.1 ≡ swap_step x t (write_step e.unit y.0.0 y.1 p y.0.1)
      = ap (λ (z : State). write_step z y.0.0 y.1 p y.0.1) h.left
      ∙ Alike.write-swap x s t a b c e.unit h.holds p y.0.0 y.0.1 n y.1 in
      record {
        names = rw (w, h.names);
        left = rw w;
        holds = Alike.write-holds x s t a b c e.unit h.holds p y.0.0 y.0.1 n y.1;
      }

  -- the tags in a list are written alike
  write-all : (p : Port) (e e' : Writes) (hs : List Held) → SameWrites x s t e e' → SparesAll x a b (carried_of hs)
      → SameWrites x s t (all_writes p e hs) (all_writes p e' hs)
  unfolding all_writes SparesAll
  write-all p e e' [] h n = h
  write-all p e e' (y ∷ hs) h n = write-all p (one_write p e y) (one_write p e' y) hs (write-one p e e' y h n.0) n.1

  -- every operation
  act-same : (u : State) (p : Port) (w : Form) (body : q.Body) → Holds x s u → SparesAll x a b (carried body)
      → Same x s t (act u p w body) (act (swap x t u) p w body)
  unfolding act resources_done allocate_done free_done read_done write_done bulk_read_done bulk_write_done SparesAll
  act-same u p w (q.resource_information ks) h n =
      record { reply = rw (Alike.room-same x s t a b c u h, told-all u [] ks h); left = refl; holds = h }
  act-same u p w (q.allocate g) h n =
      stepped_same u w (answers.allocate (named g.tag)) (allocate_step u g.tag g.size (code_mode g.mode) (code_spf g.mode) p g.access) _
      (Alike.allocate-swap x s t a b c u h p g.tag g.access n.0 g.size (code_mode g.mode) (code_spf g.mode))
      (Alike.allocate_holds x s t a b c u h p g.tag g.access n.0 g.size (code_mode g.mode) (code_spf g.mode))
  act-same u p w (q.free k) h n =
      stepped_same u w (answers.free (named k.0)) (free_step u k.0 p k.1) _
      (Alike.free-swap x s t a b c u h p k.0 k.1 n.0)
      (Alike.free-holds x s t a b c u h p k.0 k.1 n.0)
  act-same u p w (q.read k) h n =
      rw (Alike.read-swap x s t a b c u h p k.0 k.1 n.0) (shown-same u w k.0 (read_step u k.0 p k.1) h)
  act-same u p w (q.write y) h n =
      stepped_same u w (answers.write (named y.0.0)) (write_step u y.0.0 y.1 p y.0.1) _
      (Alike.write-swap x s t a b c u h p y.0.0 y.0.1 n.0 y.1)
      (Alike.write-holds x s t a b c u h p y.0.0 y.0.1 n.0 y.1)
  act-same u p w (q.bulk_read ks) h n = record { reply = rw (read_all u p [] ks h n); left = refl; holds = h }
  act-same u p w (q.bulk_write hs) h n =
      let r = write-all p (record { names = []; unit = u }) (record { names = []; unit = swap x t u }) hs (record { names = refl; left = refl; holds = h }) n in
      record { reply = rw r.names; left = r.left; holds = r.holds }

  -- ---- the entry

  -- a refusal
  denied-same : (u : State) (d : ℕ) → Holds x s u → Same x s t (deny u d) (deny (swap x t u) d)
  denied-same u d h = record { reply = refl; left = refl; holds = h }

  -- a request that decodes, and one that does not
  served-same : (u : State) (p : Port) (r : Told (Message q.Body)) → Holds x s u → SparesTold x a b r → Same x s t (served u p r) (served (swap x t u) p r)
  served-same u p (refused d fault) h n = denied-same u d h
  served-same u p (message m) h n =
      either_same (Same x s t) (ltb u.limits.list (entries_of m.body)) (deny u 7) _ (deny (swap x t u) 7) _
      (denied-same u 7 h) (act-same u p (form_at m.kind) m.body h n)

  -- the lines before the body
  lined-same : (u : State) (p : Port) (r : List ℕ) (l : Line) → Holds x s u → SparesTold x a b (told (request_read r))
      → Same x s t (lined u p r l) (lined (swap x t u) p r l)
  lined-same u p r (number d) h n = denied-same u d h
  lined-same u p r none h n = served-same u p (told (request_read r)) h n

  -- one command
  pub respond-same : (u : State) (p : Port) (r : List ℕ) (area : ℕ) → Holds x s u → SparesTold x a b (told (request_read r))
      → SameOut x s t (respond u p r area) (respond (swap x t u) p r area)
  unfolding respond handled first_lines
  respond-same u p r area h n =
      let d = lined-same u p r (first_lines u r) h n in
      either_same (SameOut x s t) (ltb area u.limits.message) _ _ _ _
      (record { result = refl; left = refl; holds = h })
      (record { result = rw d.reply; left = d.left; holds = d.holds })

  -- ---- commands one after another

  -- every reply is the same, and what is left differs in the same record
  pub all_same : (u v : State) (cs : List Command) → v ≡ swap x t u → Holds x s u → Clean x a b cs → SameAll x s t u v cs
  unfolding results final Clean
  all_same u v [] e h n = record { replies = refl; left = e; holds = h }
  all_same u v (k ∷ cs) e h n =
      let o = respond-same u k.port k.request k.area h n.0 in
      let i = all_same (respond u k.port k.request k.area).unit (respond (swap x t u) k.port k.request k.area).unit cs o.left o.holds n.1 in
      rw e record { replies = rw (o.result, i.replies); left = i.left; holds = i.holds }

-- ---- the demand

-- the one unit at the start
at-start : (x : ℕ) (s t : Tag) (u v : State) → Valid u → Twins x s t u v → Holds x s u
at-start x s t u v o w = record { valid = o; has = w.has }

-- every reply is the same in both, and they differ in the same record as at the start
pub secret : Secret
secret x s t a b u v cs o c w n =
    let r = all_same x s t a b c u v cs w.but (at-start x s t u v o w) n in
    (sym r.replies, record { has = r.holds.has; but = r.left })

-- tag by tag: the tag is in each unit what it was, every other is the same in both
pub still-secret : StillSecret
still-secret x s t a b u v cs o c w n =
    let r = all_same x s t a b c u v cs w.but (at-start x s t u v o w) n in (
      r.holds.has,
      ap (λ (z : State). registered z x) r.left ∙ Alike.has-swap x s t a b c (final u cs) r.holds,
      λ y i. sym (ap (λ (z : State). registered z y) r.left ∙ Alike.other-swap x s t a b c (final u cs) r.holds y i),
    )

-- ---- the code

-- one word is told in one way
pub word-is : (r r' : Sent) → word_of r ≡ word_of r' → r ≡ r'
word-is (Some n) (Some m) e = cc
word-is (Some n) None e = cc
word-is None (Some n) e = cc
word-is None None e = refl

-- what comes of one sending is fixed by the result
did-same : (u v : State) (c : Sending) (o o' : Sent × List ℕ)
    → (respond u c.port c.request (length c.area)).result ≡ (respond v c.port c.request (length c.area)).result
    → Did u c o → Did v c o' → o ≡ o'
did-same u v c (r, new) (r', new') e d d' =
    let i : r ≡ r' = d.says ∙ word-is d.reply.sent d'.reply.sent (d.promised.says ∙ ap word_for e ∙ sym d'.promised.says) ∙ sym d'.says in
    let j : new ≡ new' = d.promised.area ∙ ap (λ (z : Result). area_for z c.area) e ∙ sym d'.promised.area in
    rw (i, j)

-- and of sendings by their results
ran-same : (u v : State) (cs : List Sending) (outs outs' : List (Sent × List ℕ)) (head head' : Head) (table table' pool pool' : List ℕ)
    → results u (commands_of cs) ≡ results v (commands_of cs)
    → Ran u cs outs head table pool → Ran v cs outs' head' table' pool' → outs ≡ outs'
unfolding results Ran
ran-same u v [] outs outs' head head' table table' pool pool' e h k = h.0 ∙ sym k.0
ran-same u v (c ∷ cs) [] outs' head head' table table' pool pool' e h k = absurd h
ran-same u v (c ∷ cs) (o ∷ outs) [] head head' table table' pool pool' e h k = absurd k
ran-same u v (c ∷ cs) (o ∷ outs) (o' ∷ outs') head head' table table' pool pool' e h k =
    let r = respond u c.port c.request (length c.area) in
    let r' = respond v c.port c.request (length c.area) in
    let first : r.result ≡ r'.result = cc in
    let rest : results r.unit (commands_of cs) ≡ results r'.unit (commands_of cs) = cc in
    let i : o ≡ o' = did-same u v c o o' first h.0 k.0 in
    let j : outs ≡ outs' = ran-same r.unit r'.unit cs outs outs' head head' table table' pool pool' rest h.1 k.1 in
    rw (i, j)

-- what is left at the end is what the commands leave
ran-shows : (u : State) (cs : List Sending) (outs : List (Sent × List ℕ)) (head : Head) (table pool : List ℕ) → Ran u cs outs head table pool
    → Shows (final u (commands_of cs)) head table pool
unfolding final Ran
ran-shows u [] outs head table pool h = h.1
ran-shows u (c ∷ cs) [] head table pool h = absurd h
ran-shows u (c ∷ cs) (o ∷ outs) head table pool h = ran-shows (respond u c.port c.request (length c.area)).unit cs outs head table pool h.1

-- what the code tells and writes is the same in both, and what it leaves is what the definition leaves
pub secret-runs : SecretRuns
secret-runs x s t a b u v cs outs outs' head head' table table' pool pool' o c w n h k = (
  ran-same u v cs outs outs' head head' table table' pool pool' (secret x s t a b u v (commands_of cs) o c w n).0 h k,
  ran-shows u cs outs head table pool h,
  ran-shows v cs outs' head' table' pool' k,
)

-- ---- the inherited fault

-- a list that carries no password carries neither of the two
plain-spares : (x a b : ℕ) (ks : List Keyed) → AllPlain ks → SparesAll x a b ks
unfolding SparesAll
plain-spares x a b [] h = tt
plain-spares x a b ((y, Plain) ∷ ks) h = (tt, plain-spares x a b ks h)
plain-spares x a b ((y, Password w) ∷ ks) h = absurd h

-- nor does its request
plain-told : (x a b : ℕ) (r : Told (Message q.Body)) → PlainTold r → SparesTold x a b r
plain-told x a b (message m) h = plain-spares x a b (carried m.body) h
plain-told x a b (refused d fault) h = tt

-- without a password nothing changes the tag: the unit beside itself
pub no-plain-write : NoPlainWrite
no-plain-write x s q u p request area o h l n =
    (respond-same x s s q q (record { tag = refl; size = refl; mode = refl; spf = refl; lock = l; lock' = l; held = refl }) u p request area
    (record { valid = o; has = h }) (plain-told x q q (told (request_read request)) n)).holds.has

-- and nothing tells of it
pub no-plain-read : NoPlainRead
no-plain-read x s t a b u v p request area o c w n =
    let r = respond-same x s t a b c u p request area (at-start x s t u v o w) (plain-told x a b (told (request_read request)) n) in
    rw w.but (sym r.result)
