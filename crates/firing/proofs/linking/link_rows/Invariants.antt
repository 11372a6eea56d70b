use Rattle.firing.proofs.Chaining.{RowsLinking}
use Rattle.firing.proofs.linking.link_rows.Given as goal

abbrev pub invariant-loop-symbol : goal.invariant-loop-symbol
invariant-loop-symbol l = RowsLinking l.image l.x l.symbol-end l.symbol l.lasts l.links l.symbols
