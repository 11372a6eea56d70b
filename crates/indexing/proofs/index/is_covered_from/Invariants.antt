use lib.ListN.{length}
use Rattle.indexing.proofs.Listing.{Rest}
use Rattle.indexing.proofs.index.is_covered_from.Given as goal

abbrev pub invariant-loop-place : goal.invariant-loop-place
invariant-loop-place l = Rest l.blockers.masks.now l.blockers.levels.now l.from (length l.blockers.masks.now) l.level.0 l.case l.place
