use borrow.Author.Rules.{rules}
use Rattle.blockers.proofs.Walks.{walk_begins, walk_finds, walk_goes, walk_ends}
use Rattle.blockers.proofs.reasons.Blockers.first_covering.Goals as goal

pub loop-i-init : goal.loop-i-init
loop-i-init c = search (walk_begins, rules)

pub returns-then-is_some : goal.returns-then-is_some
returns-then-is_some c = search (walk_finds, rules)

pub loop-i-preserved : goal.loop-i-preserved
loop-i-preserved c = search (walk_goes, rules)

pub returns : goal.returns
returns c = search (walk_ends, rules)
