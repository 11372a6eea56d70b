use Prim.Native.Nat.{◌-◌}
use Rattle.machine.specs.Runs.{system_of}
use Rattle.sinking.proofs.Walking.{Walk}
use Rattle.sinking.proofs.rise_level.Given as goal

abbrev pub invariant-loop-place : goal.invariant-loop-place
invariant-loop-place g l =
    Walk (system_of l.image) l.level.0 l.held l.index.upto l.index.end l.lacks.masks.now l.index.low l.index.places l.initial.levels l.from l.levels

abbrev pub decreases-loop-place : goal.decreases-loop-place
decreases-loop-place g l = l.held - l.from
