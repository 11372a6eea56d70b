use borrow.Author.Rules.{rules}
use Rattle.machine.specs.Runs.{five_numbers}
use Rattle.reporting.proofs.put_first.Goals as goal

pub returns-clause-bytes : goal.returns-clause-bytes
unfolding five_numbers
returns-clause-bytes c = search rules
