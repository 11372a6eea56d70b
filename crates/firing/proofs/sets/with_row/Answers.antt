use borrow.Author.Rules.{rules}
use Rattle.firing.proofs.Fires.{row_put}
use Rattle.firing.proofs.sets.with_row.Goals as goal

pub returns : goal.returns
returns c = search (row_put, rules)
