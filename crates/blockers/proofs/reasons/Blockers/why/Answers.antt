use Rattle.blockers.proofs.WhyBlocked.{why_bottom, why_above}
use borrow.Author.Rules.{rules}
use Rattle.blockers.proofs.reasons.Blockers.why.Goals as goal

pub returns-then-eq : goal.returns-then-eq
returns-then-eq c = search (why_bottom, rules)

pub returns : goal.returns
returns c = search (why_above, rules)
