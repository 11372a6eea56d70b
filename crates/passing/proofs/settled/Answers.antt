use borrow.Author.Rules.{rules}
use Rattle.passing.proofs.Blocking.{settled_inside, settled_told}
use Rattle.passing.proofs.settled.Goals as goal

pub returns-then-subset : goal.returns-then-subset
returns-then-subset c = search (settled_inside, rules)

pub returns-else-subset : goal.returns-else-subset
returns-else-subset c = search (settled_told, rules)
