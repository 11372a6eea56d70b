use Rattle.automata.proofs.WordTests.{TakenBack}
use Rattle.automata.proofs.word.taken_back.Given as goal

abbrev pub invariant-loop-s : goal.invariant-loop-s
invariant-loop-s l = TakenBack l.image l.word l.x l.s-iterator.iter.rest.now l.case
