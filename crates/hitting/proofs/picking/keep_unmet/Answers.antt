use Rattle.hitting.proofs.Picks.{unmet_leaves, unmet_stays, unmet_ends}
use borrow.Author.Rules.{rules}
use Rattle.hitting.proofs.picking.keep_unmet.Goals as goal

pub loop-i-preserved-then-member : goal.loop-i-preserved-then-member
loop-i-preserved-then-member c = search (unmet_leaves, rules)

pub loop-i-preserved : goal.loop-i-preserved
loop-i-preserved c = search (unmet_stays, rules)

pub returns : goal.returns
returns c = search (unmet_ends, rules)
