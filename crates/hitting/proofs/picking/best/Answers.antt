use Rattle.hitting.proofs.Planes.{some_highest, lowest_highest}
use borrow.Author.Rules.{rules}
use Rattle.hitting.proofs.picking.best.Goals as goal

pub lowest_absent-requires : goal.lowest_absent-requires
lowest_absent-requires c = search (some_highest, rules)

pub returns : goal.returns
returns c = search (lowest_highest, rules)
