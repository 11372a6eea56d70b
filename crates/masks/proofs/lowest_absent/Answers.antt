use Rattle.masks.proofs.Laws.{trailing_fits, lowest_trailing}
use borrow.Author.Rules.{rules}
use Rattle.masks.proofs.lowest_absent.Goals as goal

pub overflow_cast-result : goal.overflow_cast-result
overflow_cast-result c = search (trailing_fits, rules)

pub returns : goal.returns
returns c = search (lowest_trailing, rules)
