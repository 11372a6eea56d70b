-- `put_events` calls itself with the halves of the word: the measure is the word's length.
use lib.ListN.{length}
use Rattle.printing.proofs.print.+put_events.Given as goal

abbrev pub decreases-put_events : goal.decreases-put_events
decreases-put_events l = length l.word.now
