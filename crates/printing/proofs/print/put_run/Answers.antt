use borrow.Author.Rules.{rules}
use Rattle.printing.proofs.Prints.{run_put, ready_put}
use Rattle.printing.proofs.print.put_run.Goals as goal

pub returns-then-word-table-clause-bytes : goal.returns-then-word-table-clause-bytes
returns-then-word-table-clause-bytes c = search (ready_put, rules)

pub returns-clause-bytes : goal.returns-clause-bytes
returns-clause-bytes c = search (run_put, rules)
