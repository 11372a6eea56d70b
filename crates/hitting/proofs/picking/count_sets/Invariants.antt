use Rattle.hitting.proofs.Planes.{CountingSets}
use Rattle.hitting.proofs.picking.count_sets.Given as goal

abbrev pub invariant-loop-set : goal.invariant-loop-set
invariant-loop-set l = CountingSets l.initial.planes l.sets l.set-index l.planes
