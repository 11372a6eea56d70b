use borrow.Author.Rules.{rules}
use Rattle.firing.proofs.Chaining.{span_first, span_last, row_belongs, symbol_linked}
use Rattle.firing.proofs.linking.link_symbol.Goals as goal

pub rows_to-row-requires : goal.rows_to-row-requires
rows_to-row-requires c = search (span_first, rules)

pub rows_to-row-end-requires : goal.rows_to-row-end-requires
rows_to-row-end-requires c = search (span_last, rules)

pub link_row-requires : goal.link_row-requires
link_row-requires c = (search rules, search (row_belongs, rules))

pub returns : goal.returns
returns c = search (symbol_linked, c.loop-row.auto.row-end, rules)
