use borrow.Author.Rules.{rules}
use Rattle.printing.proofs.Lines.{printing_next, printing_ends}
use Rattle.printing.proofs.print.put_lines.Goals as goal

pub loop-i-preserved : goal.loop-i-preserved
loop-i-preserved c = search (printing_next, rules)

pub returns : goal.returns
returns c = search (printing_ends, rules)
