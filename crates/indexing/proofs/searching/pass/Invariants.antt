use Prim.Native.Nat.{◌-◌}
use lib.ListN.{length}
use Rattle.indexing.specs.Index.{Passed}
use Rattle.indexing.proofs.searching.pass.Given as goal

abbrev pub invariant-loop-i : goal.invariant-loop-i
invariant-loop-i g l = Passed (g.T.Test.passed_by l.test) l.table l.from (length l.table) l.i

abbrev pub decreases-loop-i : goal.decreases-loop-i
decreases-loop-i g l = l.to - l.i
