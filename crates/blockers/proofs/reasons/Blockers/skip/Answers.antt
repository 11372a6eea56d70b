use borrow.Author.Rules.{rules}
use Rattle.blockers.proofs.Walks.{skip_next, skip_goes}
use Rattle.blockers.proofs.reasons.Blockers.skip.Goals as goal

pub returns-then-four_cover-2 : goal.returns-then-four_cover-2
returns-then-four_cover-2 c = search (skip_next, rules)

pub loop-i-preserved : goal.loop-i-preserved
loop-i-preserved c = search (skip_goes, rules)
