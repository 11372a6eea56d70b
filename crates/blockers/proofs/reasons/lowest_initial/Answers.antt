use Rattle.blockers.proofs.WhyBlocked.{start_inside, start_absent}
use borrow.Author.Rules.{rules}
use Rattle.blockers.proofs.reasons.lowest_initial.Goals as goal

pub returns-then-subset : goal.returns-then-subset
returns-then-subset c = search (start_inside, rules)

pub returns : goal.returns
returns c = search (start_absent, rules)
