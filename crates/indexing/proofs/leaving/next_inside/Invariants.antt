use Prim.Native.Nat.{◌-◌, ◌≤◌}
use lib.ListN.{length}
use Rattle.masks.specs.Sets.{subset}
use Rattle.indexing.specs.Index.{Passed}
use Rattle.indexing.proofs.leaving.next_inside.Given as goal

abbrev pub invariant-loop-i : goal.invariant-loop-i
invariant-loop-i l = record { passed : Passed (λ other. subset other l.mask) l.masks l.from (length l.masks) l.at; noted : l.at ≤ l.noted }

abbrev pub decreases-loop-i : goal.decreases-loop-i
decreases-loop-i l = l.noted - l.at
