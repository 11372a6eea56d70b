use Prim.Native.Nat.{◌-◌}
use Rattle.covering.proofs.Covering.{Listing}
use Rattle.covering.proofs.list_on.Given as goal

abbrev pub invariant-loop-i : goal.invariant-loop-i
invariant-loop-i l = Listing l.blockers.masks.now l.blockers.levels.now l.below.0 l.p l.initial.near l.near l.initial.end l.count l.i l.end

abbrev pub decreases-loop-i : goal.decreases-loop-i
decreases-loop-i l = l.count - l.i
