use Rattle.closing.proofs.Vacant.{Marking}
use Rattle.closing.proofs.vacancy.marked.Given as goal

abbrev pub invariant-loop-level : goal.invariant-loop-level
invariant-loop-level l = Marking l.levels l.level-index l.marks
