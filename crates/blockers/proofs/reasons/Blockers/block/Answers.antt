use Rattle.blockers.proofs.WhyBlocked.{blocked_told}
use borrow.Author.Rules.{rules}
use Rattle.blockers.proofs.reasons.Blockers.block.Goals as goal

pub returns : goal.returns
returns c = search (blocked_told, rules)
