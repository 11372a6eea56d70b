use Rattle.automata.proofs.RowWalks.{row_tested}
use borrow.Author.Rules.{rules}
use Rattle.automata.proofs.backward.with_row.Goals as goal

pub returns : goal.returns
returns c = search (row_tested, rules)
