use Rattle.chains.proofs.Chains.{behind}
use Rattle.hitting.proofs.Linking.{Looking}
use Rattle.hitting.proofs.gathering.Gathering.has.Given as goal

abbrev pub invariant-loop-next : goal.invariant-loop-next
invariant-loop-next g l = Looking l.held l.self.slots l.self.links l.set l.next

abbrev pub decreases-loop-next : goal.decreases-loop-next
decreases-loop-next g l = behind l.next
