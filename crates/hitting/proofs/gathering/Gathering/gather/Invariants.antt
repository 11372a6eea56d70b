use Rattle.blockers.specs.Tables.{held_in}
use Rattle.hitting.proofs.Gathers.{SymbolsGathered}
use Rattle.hitting.proofs.gathering.Gathering.gather.Given as goal

abbrev pub invariant-loop-s : goal.invariant-loop-s
invariant-loop-s g l = SymbolsGathered l.pending.image.now (held_in l.pending.blockers.now) l.pending.below.0 l.pending.x l.s-end l.s l.self
