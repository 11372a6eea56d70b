use Rattle.masks.proofs.Laws.{within_none, within_any, within_test}
use borrow.Author.Rules.{rules}
use Rattle.masks.proofs.within.Goals as goal

pub returns-then-n-eq0 : goal.returns-then-n-eq0
returns-then-n-eq0 c = search (within_none, rules)

pub returns-then-n-gt64 : goal.returns-then-n-gt64
returns-then-n-gt64 c = search (within_any, rules)

pub returns : goal.returns
returns c = search (within_test, rules)
