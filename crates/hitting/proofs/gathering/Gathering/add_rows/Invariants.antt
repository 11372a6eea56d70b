use Prim.Native.Nat.{◌-◌}
use Rattle.hitting.proofs.Gathers.{RowsGathered}
use Rattle.hitting.proofs.gathering.Gathering.add_rows.Given as goal

abbrev pub invariant-loop-at : goal.invariant-loop-at
invariant-loop-at g l = RowsGathered l.image l.fn.rows.start l.fn.rows.end l.b l.x l.initial.self l.at l.self

abbrev pub decreases-loop-at : goal.decreases-loop-at
decreases-loop-at g l = l.at-end - l.at
