use Rattle.writing.proofs.LinesPut.{Lining}
use Rattle.writing.proofs.put_line.Given as goal

abbrev pub invariant-loop-i : goal.invariant-loop-i
invariant-loop-i g l = Lining g.N.Number.value l.numbers l.start l.initial.room l.room l.end l.i
