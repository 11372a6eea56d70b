use Prim.Native.Nat.{◌-◌}
use lib.ListN.{length}
use Rattle.indexing.proofs.Leavers.{Leaving}
use Rattle.indexing.proofs.leaving.leave.Given as goal

abbrev pub invariant-loop-i : goal.invariant-loop-i
invariant-loop-i l = Leaving l.mask l.level.0 (length l.masks) l.masks l.initial.levels l.from l.levels

abbrev pub decreases-loop-i : goal.decreases-loop-i
decreases-loop-i l = length l.masks - l.from
