-- The three demands, proved: each proposition of specs/Demands with its proof, in that file's order. What is proved elsewhere is named by its file.
use mathlib.Core.Path.{◌≡◌, sym, ◌∙◌, ap}
use lib.ListN.{length}
use Rattle.store.proofs.Unique.{shows-unique}
use Rattle.responder.specs.Demands.{Fixed, FixedByLength, DenialKeeps, SilenceKeeps, DenialArea, SilenceArea, Readable, Secret, StillSecret, SecretRuns, NoPlainWrite, NoPlainRead}
use Rattle.responder.specs.Entry.{area_for, Responded}
use Rattle.responder.specs.Respond.{Result, respond}
use Rattle.responder.proofs.Refusals
use Rattle.responder.proofs.Readable as read
use Rattle.responder.proofs.Secret as both

-- ---- 1

-- exactly one reply or refusal: two outcomes that the promise allows are equal
pub fixed : Fixed
fixed u p s old r r' new new' table table' pool pool' h k =
    let w = shows-unique (respond u p s (length old)).unit r.head r'.head table pool table' pool' h.left k.left in
    let i : r.sent ≡ r'.sent = both.word-is r.sent r'.sent (h.says ∙ sym k.says) in
    (rw (w.0, i), h.area ∙ sym k.area, w.1, w.2)

-- whatever the area holds
pub fixed-by-length : FixedByLength
fixed-by-length u p s old old' r r' new new' table table' pool pool' e h k' =
    let k : Responded (respond u p s (length old)) r' old' new' table' pool' = rw e k' in
    let w = shows-unique (respond u p s (length old)).unit r.head r'.head table pool table' pool' h.left k.left in
    let i : r.sent ≡ r'.sent = both.word-is r.sent r'.sent (h.says ∙ sym k.says) in
    (rw (w.0, i), w.1, w.2, h.area, k.area)

-- a denial changes no tag
pub denial-keeps : DenialKeeps
denial-keeps = Refusals.denial-keeps

-- nor does a refusal without an answer
pub silence-keeps : SilenceKeeps
silence-keeps = Refusals.silence-keeps

-- a denial writes its own octets into the area, and nothing else
pub denial-area : DenialArea
denial-area u p s old new table pool r d h e = h.area ∙ ap (λ (o : Result). area_for o old) e

-- without an answer the area is as it was
pub silence-area : SilenceArea
silence-area u p s old new table pool r n h e = h.area ∙ ap (λ (o : Result). area_for o old) e

-- ---- 2

-- every reply is read by the codec as just that answer
pub readable : Readable
readable = read.readable

-- ---- 3

-- every reply is the same in both units, and they stay twins
pub secret : Secret
secret = both.secret

-- tag by tag
pub still-secret : StillSecret
still-secret = both.still-secret

-- what the code tells and writes is the same in both, and what it leaves is what the definition leaves
pub secret-runs : SecretRuns
secret-runs = both.secret-runs

-- ---- the inherited fault

-- no plain command changes a tag that has a password
pub no-plain-write : NoPlainWrite
no-plain-write = both.no-plain-write

-- no plain command shows what it holds
pub no-plain-read : NoPlainRead
no-plain-read = both.no-plain-read
