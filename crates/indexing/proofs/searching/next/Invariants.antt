use Rattle.indexing.specs.Index.{Passed}
use Rattle.indexing.proofs.searching.next.Given as goal

abbrev pub invariant-loop-i : goal.invariant-loop-i
invariant-loop-i g l = Passed (g.T.Test.passed_by l.test) l.table l.from l.to l.i
