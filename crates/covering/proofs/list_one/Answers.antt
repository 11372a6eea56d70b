use borrow.Author.Rules.{rules}
use Rattle.covering.proofs.Covering.{one_full, one_misses, one_joins}
use Rattle.covering.proofs.list_one.Goals as goal

pub returns-then-near-end : goal.returns-then-near-end
returns-then-near-end c = search (one_full, rules)

pub returns-then-is_none : goal.returns-then-is_none
returns-then-is_none c = search (one_misses, rules)

pub returns : goal.returns
returns c = search (one_joins, rules)
