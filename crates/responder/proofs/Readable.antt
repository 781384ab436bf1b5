-- Whatever the unit replies to octets is read by the codec, as just that answer: demand 2, "reads each back as the message it was written from", of the responder.
-- The premise `Octets s` is needed: numbers above 255 could spell a tag that has no eight octets.
use Rattle.answers.proofs.Theorems.{answer-written-reads}
use Rattle.responder.specs.Demands.{Readable}
use Rattle.responder.proofs.Writable.{respond-writable}

-- every reply reads back
pub readable : Readable
readable u p s area a o t e = answer-written-reads a (respond-writable u p s area a o t e)
