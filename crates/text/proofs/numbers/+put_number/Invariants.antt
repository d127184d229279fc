-- The measure is the number: each call has one digit less to write.
use Rattle.text.proofs.numbers.+put_number.Given as goal

abbrev pub decreases-put_number : goal.decreases-put_number
decreases-put_number l = l.x
