use Rattle.automata.proofs.RowWalks.{three_stand, three_go, first_fills, second_fills, third_fills}
use borrow.Author.Rules.{rules}
use Rattle.automata.proofs.backward.by_threes.Goals as goal

pub with_three-sets-requires : goal.with_three-sets-requires
with_three-sets-requires c = search (three_stand, rules)

pub returns-then-sets-all-2 : goal.returns-then-sets-all-2
returns-then-sets-all-2 c = search (first_fills, rules)

pub returns-then-sets-all-3 : goal.returns-then-sets-all-3
returns-then-sets-all-3 c = search (second_fills, rules)

pub returns-then-sets-all : goal.returns-then-sets-all
returns-then-sets-all c = search (third_fills, rules)

pub loop-at-preserved : goal.loop-at-preserved
loop-at-preserved c = search (three_go, rules)
