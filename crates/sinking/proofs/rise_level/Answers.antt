use borrow.Author.Rules.{rules}
use Rattle.sinking.proofs.Walking.{walk_starts, walk_goes, walk_ends}
use Rattle.sinking.proofs.rise_level.Goals as goal

pub loop-place-init : goal.loop-place-init
loop-place-init g c = search (walk_starts, rules)

pub loop-place-preserved : goal.loop-place-preserved
loop-place-preserved g c = walk_goes c.loop-place.invariant c.in-Some.ensures c.try_rise.ensures (search rules)

pub returns : goal.returns
returns g c = walk_ends c.loop-place.invariant (search rules)
