use borrow.Author.Rules.{rules}
use Rattle.writing.proofs.LinesPut.{lining_starts, lining_next, lining_ends}
use Rattle.writing.proofs.put_line.Goals as goal

pub loop-i-init : goal.loop-i-init
loop-i-init g c = search (lining_starts, rules)

pub loop-i-preserved : goal.loop-i-preserved
loop-i-preserved g c = search (lining_next, rules)

pub returns-clause-bytes : goal.returns-clause-bytes
returns-clause-bytes g c = search (lining_ends, rules)
