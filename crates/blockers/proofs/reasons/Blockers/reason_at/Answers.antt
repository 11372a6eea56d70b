use Rattle.blockers.proofs.Walks.{reason_here, reason_none}
use borrow.Author.Rules.{rules}
use Rattle.blockers.proofs.reasons.Blockers.reason_at.Goals as goal

pub returns-then-covers_at : goal.returns-then-covers_at
returns-then-covers_at c = search (reason_here, rules)

pub returns : goal.returns
returns c = search (reason_none, rules)
