use Rattle.blockers.proofs.Walks.{Walked}
use Rattle.blockers.proofs.reasons.Blockers.first_covering.Given as goal

abbrev pub invariant-loop-i : goal.invariant-loop-i
invariant-loop-i l = Walked l.self.masks.now l.self.levels.now l.count l.level.0 l.case l.i
