use borrow.Author.Rules.{rules}
use Rattle.firing.proofs.Chaining.{rows_start, rows_go, rows_all}
use Rattle.firing.proofs.linking.link_rows.Goals as goal

pub loop-symbol-init : goal.loop-symbol-init
loop-symbol-init c = search (rows_start, rules)

pub loop-symbol-preserved : goal.loop-symbol-preserved
loop-symbol-preserved c = search (rows_go, rules)

pub returns : goal.returns
returns c = search (rows_all, rules)
