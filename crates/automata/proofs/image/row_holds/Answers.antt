use Rattle.automata.proofs.Checks.{row_state, row_case}
use borrow.Author.Rules.{rules}
use Rattle.automata.proofs.image.row_holds.Goals as goal

pub returns-else-image-at : goal.returns-else-image-at
returns-else-image-at c = search (row_state, rules)

pub returns-then-image-at : goal.returns-then-image-at
returns-then-image-at c = search (row_case, rules)
