use Rattle.printing.proofs.SetsBehind.{Filling}
use Rattle.printing.proofs.steps.fill.Given as goal

abbrev pub invariant-loop-i : goal.invariant-loop-i
invariant-loop-i l = Filling l.image l.word l.z l.initial.table l.table l.case l.i
