use borrow.Author.Rules.{rules}
use Rattle.chains.proofs.Chains.{told_one_less}
use Rattle.chains.proofs.told.Goals as goal

pub returns : goal.returns
returns c = search (told_one_less, rules)
