-- No message is longer than 2,048 octets, so that its length can be told: of what a writer writes, and of what the responder answers.
use Prim.Native.Nat.{ℕ, ◌≤◌}
use mathlib.Core.Path.{◌≡◌, refl}
use mathlib.Core.Bool.{Bool, true, false, cond}
use mathlib.Core.List.{List, ◌++◌}
use native.Mathlib.Omega.{arith}
use lib.ListN.{length, drop, length-append}
use lib.Dec.{ltb}
use Rattle.octets.specs.Area.{Outcome, done, refused, written, described, Does}
use Rattle.octets.specs.Frame.{Message, opening, openable, encode, writable}
use Rattle.octets.specs.Reading.{Octets}
use Rattle.octets.specs.declared.Form.{Form}
use Rattle.octets.specs.declared.Port.{Port}
use Rattle.octets.specs.Area.{Written}
use Rattle.std.specs.Prelude.{Some, None, Ok, Err}
use Rattle.octets.proofs.Frames.{openable-is}
use Rattle.octets.proofs.Places.{both}
use Rattle.lists.specs.Handed.{agrees, belong, keys_of, held_of}
use Rattle.requests.specs.Request.{Body, bulk_read, bulk_write, request_body, request, request_sent, bulk_read_sent, bulk_write_sent}
use Rattle.answers.specs.Answer.{answer_octets}
use Rattle.store.specs.Model.{State, Valid}
use Rattle.responder.specs.Entry.{word_of, word_for, Responded, Sent}
use Rattle.responder.specs.Respond.{Result, silent, replied, respond}
use Rattle.responder.specs.declared.Reply.{Reply}
use Rattle.responder.proofs.Writable.{respond-short}
use Rattle.capi.specs.Result.{WrittenShort, SentShort}

-- a message that may be written
message-short : (m : Message Body) → writable request_body m ≡ true → length (encode request_body m) ≤ 2048
unfolding writable encode
message-short m h =
    let b : List ℕ = (request_body m.kind).put m.body in
    let c = both (openable m.version m.kind (length b)) ((request_body m.kind).fits m.body) h in
    omega (arith, (openable-is m.version m.kind (length b) c.0).1, length-append (opening m.version m.kind (length b)) b)

-- what is told of octets that may be written or not
written-short : (b : Bool) (m old new : List ℕ) (x : Written) → (b ≡ true → length m ≤ 2048) → Does (written b m old) x new → WrittenShort x
unfolding written
written-short b m old new (Err e) h d = tt
written-short false m old new (Ok n) h d = let e : done n ≡ refused 16 = d.says in absurd (cc)
written-short true m old new (Ok n) h d = go (ltb (length old) (length m)) d.says
  where
    go : (t : Bool) → done n ≡ (cond {A = Outcome × List ℕ} t (refused 300, old) (done (length m), m ++ drop (length m) old)).0 → n ≤ 2048
    go true e = absurd (cc)
    go false e = let z : n ≡ length m = cc in omega (arith, h refl)

-- a request
pub request-short : (m : Message Body) (old : List ℕ) {new : List ℕ} {x : Written} → Does (request_sent m old) x new → WrittenShort x
request-short m old {new} {x} d = written-short (writable request_body m) (encode request_body m) old new x (message-short m) d

-- a request of lists that slices describe, or do not
described-short : (b : Bool) (m : Message Body) (old new : List ℕ) (x : Written) → Does (described b (request_sent m old) old) x new → WrittenShort x
described-short true m old new x d = request-short m old d
described-short false m old new (Err e) d = tt
described-short false m old new (Ok n) d = let e : done n ≡ refused 16 = d.says in absurd (cc)

module _ (w : Form) (version : ℕ) (tags passwords old : List ℕ) {new : List ℕ} {x : Written} where
  pub bulk-read-short : Does (bulk_read_sent w version tags passwords old) x new → WrittenShort x
  bulk-read-short d = described-short (agrees w (length tags) (length passwords)) (request version w (bulk_read (keys_of w tags passwords))) old new x d

  pub bulk-write-short : (starts lengths octets : List ℕ) → Does (bulk_write_sent w version tags passwords starts lengths octets old) x new → WrittenShort x
  bulk-write-short starts lengths octets d =
      described-short (belong w tags passwords starts lengths octets) (request version w (bulk_write (held_of w tags passwords starts lengths octets))) old new x d

-- the answer to a request
pub respond-sent-short : (u : State) (p : Port) (q area : List ℕ) (r : Reply) (new table pool : List ℕ) → Valid u → Octets q
    → Responded (respond u p q (length area)) r area new table pool → SentShort r.sent
respond-sent-short u p q area r new table pool v o d = go r.sent (respond u p q (length area)).result refl d.says
  where
    go : (t : Sent) (x : Result) → (respond u p q (length area)).result ≡ x → word_of t ≡ word_for x → SentShort t
    go None x e k = tt
    go (Some n) (silent m) e k = absurd (cc)
    go (Some n) (replied a) e k = let z : n ≡ length (answer_octets a) = cc in omega (arith, respond-short u p q (length area) a v o e)
