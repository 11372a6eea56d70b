use borrow.Author.Rules.{rules}
use Rattle.firing.proofs.Chaining.{row_low, row_stands, chain_place, link_place, number_fits, symbol_place, row_linked}
use Rattle.firing.proofs.linking.link_row.Goals as goal

pub place_of-requires : goal.place_of-requires
place_of-requires c = search (row_low, rules)

pub row_at-case-requires : goal.row_at-case-requires
row_at-case-requires c = search (row_stands, rules)

pub link-requires : goal.link-requires
link-requires c = search (chain_place, link_place, number_fits, rules)

pub bounds-symbols-row : goal.bounds-symbols-row
bounds-symbols-row c = search (symbol_place, rules)

pub returns : goal.returns
returns c = search (row_linked, rules)
