use Prim.Native.Nat.{◌-◌}
use Rattle.automata.specs.Walk.{Walking}
use Rattle.automata.proofs.backward.by_ones.Given as goal

abbrev pub invariant-loop-at : goal.invariant-loop-at
invariant-loop-at l = Walking l.bytes l.rows.start l.rows.end l.x l.at l.set

abbrev pub decreases-loop-at : goal.decreases-loop-at
decreases-loop-at l = l.rows.end - l.at
