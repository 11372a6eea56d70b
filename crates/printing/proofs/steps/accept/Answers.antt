use borrow.Author.Rules.{rules}
use Rattle.printing.proofs.Stepping.{accept_tested, filled_long}
use Rattle.printing.proofs.steps.accept.Goals as goal

pub returns-then-table-word-clause-accepted : goal.returns-then-table-word-clause-accepted
returns-then-table-word-clause-accepted c = search (accept_tested, rules)

pub returns : goal.returns
returns c = record { accepted = search (accept_tested, rules); sets = search (filled_long, rules) }
