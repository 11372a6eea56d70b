use Rattle.chains.proofs.Chains.{behind}
use Rattle.firing.proofs.Fires.{Firing}
use Rattle.firing.proofs.sets.fire.Given as goal

abbrev pub invariant-loop-number : goal.invariant-loop-number
invariant-loop-number l = Firing l.image l.fn.q.0 l.y l.more l.lasts l.links l.symbols l.initial.sets l.sets l.number

abbrev pub decreases-loop-number : goal.decreases-loop-number
decreases-loop-number l = behind l.number
