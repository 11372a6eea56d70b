use Rattle.hitting.proofs.Planes.{counts_go, counts_end}
use borrow.Author.Rules.{rules}
use Rattle.hitting.proofs.picking.count_sets.Goals as goal

pub loop-set-preserved : goal.loop-set-preserved
loop-set-preserved c = search (counts_go, rules)

pub returns : goal.returns
returns c = search (counts_end, rules)
