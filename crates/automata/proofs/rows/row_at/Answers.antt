use Rattle.automata.proofs.RowWalks.{state_fits, row_read}
use borrow.Author.Rules.{rules}
use Rattle.automata.proofs.rows.row_at.Goals as goal

pub returns : goal.returns
returns c = search (state_fits, row_read, rules)
