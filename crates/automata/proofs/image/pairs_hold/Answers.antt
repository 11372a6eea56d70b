use borrow.Author.Rules.{rules}
use Rattle.automata.proofs.Checks.{pairs_none, pair_offset, pair_size, pair_next, pairs_end}
use Rattle.automata.proofs.image.pairs_hold.Goals as goal

pub loop-s-init : goal.loop-s-init
loop-s-init c = search (pairs_none, rules)

pub returns-then-offset-start : goal.returns-then-offset-start
returns-then-offset-start c = search (pair_offset, rules)

pub returns-then-size-ne0 : goal.returns-then-size-ne0
returns-then-size-ne0 c = search (pair_size, rules)

pub loop-s-preserved : goal.loop-s-preserved
loop-s-preserved c = search (pair_next, rules)

pub returns : goal.returns
returns c = search (pairs_end, rules)
