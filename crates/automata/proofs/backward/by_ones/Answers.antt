use Rattle.automata.proofs.RowWalks.{one_stands, one_goes, one_fills, none_left}
use borrow.Author.Rules.{rules}
use Rattle.automata.proofs.backward.by_ones.Goals as goal

pub with_row-set-requires : goal.with_row-set-requires
with_row-set-requires c = search (one_stands, rules)

pub returns-then-set-all : goal.returns-then-set-all
returns-then-set-all c = search (one_fills, rules)

pub loop-at-preserved : goal.loop-at-preserved
loop-at-preserved c = search (one_goes, rules)

pub returns : goal.returns
returns c = search (none_left, rules)
