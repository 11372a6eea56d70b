use borrow.Author.Rules.{rules}
use Rattle.rising.proofs.Along.{walk_starts, rises_exactly, walk_passes, walk_rises, walk_ends}
use Rattle.rising.proofs.rise_level.Goals as goal

pub loop-place-init : goal.loop-place-init
loop-place-init c = record { walked = search (walk_starts, rules); same = search rules }

pub rise-kept-requires : goal.rise-kept-requires
rise-kept-requires c = search (rises_exactly, rules)

pub loop-place-preserved-then-rises : goal.loop-place-preserved-then-rises
loop-place-preserved-then-rises c = record { walked = search (walk_rises, rules); same = search rules }

pub loop-place-preserved : goal.loop-place-preserved
loop-place-preserved c = record { walked = search (walk_passes, rules); same = search rules }

pub returns-clause-risen : goal.returns-clause-risen
returns-clause-risen c = search (walk_ends, rules)
