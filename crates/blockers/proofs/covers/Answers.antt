use Rattle.blockers.proofs.Levels.{covering}
use borrow.Author.Rules.{rules}
use Rattle.blockers.proofs.covers.Goals as goal

pub returns : goal.returns
returns c = search (covering, rules)
