-- The measure is the number.
use Rattle.text.proofs.number.+write_digits.Given as goal

abbrev pub decreases-write_digits : goal.decreases-write_digits
decreases-write_digits l = l.x
