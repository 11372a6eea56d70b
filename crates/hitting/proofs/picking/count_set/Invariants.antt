use Rattle.hitting.proofs.Planes.{Carrying}
use Rattle.hitting.proofs.picking.count_set.Given as goal

abbrev pub invariant-loop-plane : goal.invariant-loop-plane
invariant-loop-plane l = Carrying l.initial.planes l.set l.carry l.plane-index l.planes
