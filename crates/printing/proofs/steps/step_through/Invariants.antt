use Rattle.printing.proofs.Stepping.{Stepping}
use Rattle.printing.proofs.steps.step_through.Given as goal

abbrev pub invariant-loop-i : goal.invariant-loop-i
invariant-loop-i l = Stepping l.image l.word l.x l.initial.table l.table l.case l.i
