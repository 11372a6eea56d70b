use Rattle.printing.proofs.Lines.{Printing}
use Rattle.printing.proofs.print.put_lines.Given as goal

abbrev pub invariant-loop-i : goal.invariant-loop-i
invariant-loop-i l = Printing l.word l.table l.start l.limit l.initial.room l.room l.end l.i
