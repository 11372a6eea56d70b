use Rattle.blockers.proofs.Walks.{none_found}
use borrow.Author.Rules.{rules}
use Rattle.blockers.proofs.reasons.none_at.Goals as goal

pub returns : goal.returns
returns c = search (none_found, rules)
