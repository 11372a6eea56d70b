use Rattle.blockers.proofs.Walks.{four_cover}
use borrow.Author.Rules.{rules}
use Rattle.blockers.proofs.reasons.Blockers.four_cover.Goals as goal

pub returns : goal.returns
returns c = search (four_cover, rules)
