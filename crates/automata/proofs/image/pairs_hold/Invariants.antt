use Rattle.automata.proofs.Checks.{PairsLeft}
use Rattle.automata.proofs.image.pairs_hold.Given as goal

abbrev pub invariant-loop-s : goal.invariant-loop-s
invariant-loop-s l = PairsLeft l.image l.start l.s
