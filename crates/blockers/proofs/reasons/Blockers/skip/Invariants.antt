use Prim.Native.Nat.{◌-◌}
use Rattle.blockers.proofs.Walks.{Skipping}
use Rattle.blockers.proofs.reasons.Blockers.skip.Given as goal

abbrev pub invariant-loop-i : goal.invariant-loop-i
invariant-loop-i l = Skipping l.self.masks.now l.self.levels.now l.level.0 l.case l.count l.from l.i

abbrev pub decreases-loop-i : goal.decreases-loop-i
decreases-loop-i l = l.count - l.i
