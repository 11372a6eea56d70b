use borrow.Author.Rules.{rules}
use Rattle.printing.proofs.Prints.{print_rejected, print_accepted}
use Rattle.printing.proofs.print.print_known.Goals as goal

pub returns-then-not-accept : goal.returns-then-not-accept
returns-then-not-accept c = search (print_rejected, rules)

pub returns : goal.returns
returns c = search (print_accepted, rules)
