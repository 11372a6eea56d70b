use Rattle.indexing.specs.Index.{NoneOf}
use Rattle.indexing.proofs.searching.one_of_sixteen.Given as goal

abbrev pub invariant-loop-i : goal.invariant-loop-i
invariant-loop-i g l = NoneOf (g.T.Test.passed_by l.test) l.table l.at l.i l.found
