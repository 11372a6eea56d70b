use Rattle.masks.proofs.Laws.{without_tested}
use borrow.Author.Rules.{rules}
use Rattle.masks.proofs.absent.Goals as goal

pub returns : goal.returns
returns c = search (without_tested, rules)
