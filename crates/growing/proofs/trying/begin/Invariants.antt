use Rattle.growing.proofs.Begins.{FirstSets}
use Rattle.growing.proofs.trying.begin.Given as goal

abbrev pub invariant-loop-s : goal.invariant-loop-s
invariant-loop-s l = FirstSets l.pending l.head.symbols l.s l.grown l.lists
