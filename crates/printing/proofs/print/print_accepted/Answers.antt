use borrow.Author.Rules.{rules}
use Rattle.printing.proofs.Prints.{print_short, print_fits}
use Rattle.printing.proofs.print.print_accepted.Goals as goal

pub returns-then-room-length : goal.returns-then-room-length
returns-then-room-length c = search (print_short, rules)

pub returns : goal.returns
returns c = search (print_fits, rules)
