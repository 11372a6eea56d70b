use borrow.Author.Rules.{rules}
use Rattle.passing.proofs.States.{grows_beyond}
use Rattle.growing.proofs.by_states.Goals as goal

pub returns-then-not-within : goal.returns-then-not-within
returns-then-not-within c = search (grows_beyond, rules)
