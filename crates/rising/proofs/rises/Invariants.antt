use Rattle.machine.specs.Machine.{blocked}
use Rattle.blockers.specs.Tables.{held_in}
use Rattle.automata.proofs.EachSymbol.{EachTried}
use Rattle.rising.proofs.rises.Given as goal

abbrev pub invariant-loop-s : goal.invariant-loop-s
invariant-loop-s l = EachTried l.image (blocked l.head.initial (held_in l.blockers) l.level.0) l.mask l.head.symbols l.s
