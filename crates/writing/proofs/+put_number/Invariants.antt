-- `put_number` calls itself with the number divided by ten: the measure is the number.
use Rattle.writing.proofs.+put_number.Given as goal

abbrev pub decreases-put_number : goal.decreases-put_number
decreases-put_number l = l.number
