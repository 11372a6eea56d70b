use borrow.Author.Rules.{rules}
use Rattle.printing.proofs.Stepping.{ready_long}
use Rattle.printing.proofs.steps.run_through.Goals as goal

pub returns-then-word-table : goal.returns-then-word-table
returns-then-word-table c = search (ready_long, rules)
