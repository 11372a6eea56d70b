use borrow.Author.Rules.{rules}
use Rattle.sinking.proofs.Indexed.{indexed_goes, indexed_ends}
use Rattle.sinking.proofs.rise_levels.Goals as goal

pub loop-number-preserved : goal.loop-number-preserved
loop-number-preserved g c = indexed_goes c.loop-number.invariant (search rules) c.regather.ensures c.rise_level.ensures (search rules)

pub returns : goal.returns
returns g c = indexed_ends c.loop-number.invariant (search rules) c.gather.ensures

pub returns-2 : goal.returns-2
returns-2 g c =
    indexed_ends (indexed_goes c.loop-number.invariant (search rules) c.regather.ensures c.rise_level.ensures (search rules)) (search rules) c.gather.ensures
