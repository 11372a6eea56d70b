use lib.ListN.{length}
use Rattle.machine.specs.Runs.{system_of}
use Rattle.sinking.proofs.Indexed.{Indexed}
use Rattle.sinking.proofs.rise_levels.Given as goal

abbrev pub invariant-loop-number : goal.invariant-loop-number
invariant-loop-number g l =
    Indexed (system_of l.image) l.fn.top.0 (length l.lacks.masks.now) l.lacks.masks.now l.fn.levels l.number l.index.upto l.index.end l.index.low l.index.places l.levels
