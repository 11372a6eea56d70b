use mathlib.Core.Path.{◌≡◌}
use Rattle.automata.proofs.PickWalks.{PickingCuts}
use Rattle.automata.proofs.picks.pick_rows.Given as goal

abbrev pub invariant-loop-row : goal.invariant-loop-row
invariant-loop-row l = record {
  size : l.row-iterator.size ≡ 9;
  cuts : PickingCuts l.bytes l.fn.rows.start l.fn.rows.end l.set l.x l.picked l.row-iterator.rest.now;
}
