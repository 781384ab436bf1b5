-- `write_digits` ends because each call has a place fewer.
use Rattle.records.proofs.+write_digits.Given as goal

abbrev pub decreases-write_digits : goal.decreases-write_digits
decreases-write_digits l = l.places
