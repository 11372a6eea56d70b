use Rattle.hitting.proofs.Picks.{ClosingUp}
use Rattle.hitting.proofs.picking.keep_unmet.Given as goal

abbrev pub invariant-loop-i : goal.invariant-loop-i
invariant-loop-i l = ClosingUp l.initial.sets l.q.0 l.kept l.i l.sets
