use Rattle.machine.specs.Machine.{settled}
use Rattle.blockers.specs.Tables.{held_in}
use Rattle.automata.proofs.EachSymbol.{EachTried}
use Rattle.growing.proofs.trying.all_settled.Given as goal

abbrev pub invariant-loop-s : goal.invariant-loop-s
invariant-loop-s l =
    EachTried l.pending.image.now (settled l.head.initial (held_in l.pending.blockers.now) l.pending.below.0 l.more) l.more l.head.symbols l.s
