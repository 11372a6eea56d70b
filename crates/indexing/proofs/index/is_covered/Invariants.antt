use Prim.Native.Nat.{◌-◌}
use lib.ListN.{length}
use Rattle.indexing.proofs.Listing.{Sought}
use Rattle.indexing.proofs.index.is_covered.Given as goal

abbrev pub invariant-loop-i : goal.invariant-loop-i
invariant-loop-i l =
    Sought l.level.0 (length l.blockers.masks.now) l.listed.upto l.listed.end l.blockers.masks.now l.blockers.levels.now l.low l.places l.case l.from

abbrev pub decreases-loop-i : goal.decreases-loop-i
decreases-loop-i l = l.listed.end - l.from
