use Rattle.hitting.proofs.Picks.{Picking}
use Rattle.hitting.proofs.picking.pick.Given as goal

abbrev pub invariant-loop-turn : goal.invariant-loop-turn
invariant-loop-turn l = Picking l.n l.initial.sets l.left l.picked l._turn l.sets
