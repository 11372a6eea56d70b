use borrow.Author.Rules.{rules}
use Rattle.automata.proofs.EachSymbol.{each_starts, each_known, each_goes}
use Rattle.passing.proofs.Passing.{all_fails, all_ends}
use Rattle.passing.proofs.all_settled.Goals as goal

pub loop-s-init : goal.loop-s-init
loop-s-init c = search (each_starts, rules)

pub backward-p-requires : goal.backward-p-requires
backward-p-requires c = search (each_known, rules)

pub returns-then-not-settled : goal.returns-then-not-settled
returns-then-not-settled c = search (all_fails, rules)

pub loop-s-preserved : goal.loop-s-preserved
loop-s-preserved c = search (each_goes, rules)

pub returns : goal.returns
returns c = search (all_ends, rules)
