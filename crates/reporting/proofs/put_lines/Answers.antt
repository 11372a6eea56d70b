use borrow.Author.Rules.{rules}
use Rattle.reporting.proofs.SecondLine.{both_put}
use Rattle.reporting.proofs.put_lines.Goals as goal

pub returns-clause-bytes : goal.returns-clause-bytes
returns-clause-bytes c = search (both_put, rules)
