use borrow.Author.Rules.{rules}
use Rattle.reporting.proofs.SecondLine.{lines_short, lines_fit}
use Rattle.reporting.proofs.lines.Goals as goal

pub returns-then-room-length-clause-bytes : goal.returns-then-room-length-clause-bytes
returns-then-room-length-clause-bytes c = search (lines_short, rules)

pub returns-clause-bytes : goal.returns-clause-bytes
returns-clause-bytes c = search (lines_fit, rules)
