use lib.ListN.{length}
use Rattle.masks.specs.Sets.{subset}
use Rattle.indexing.specs.Index.{Passed}
use Rattle.indexing.proofs.leaving.next_from.Given as goal

abbrev pub invariant-loop-i : goal.invariant-loop-i
invariant-loop-i l = Passed (λ other. subset other l.mask) l.masks l.from (length l.masks) l.i
