use borrow.Author.Rules.{rules}
use Rattle.growing.proofs.Tries.{tries_start, tries_go, tries_end}
use Rattle.growing.proofs.trying.by_chains.Goals as goal

pub loop-q-init : goal.loop-q-init
loop-q-init g c = search (tries_start, rules)

pub loop-q-preserved : goal.loop-q-preserved
loop-q-preserved g c = search (tries_go, rules)

pub returns : goal.returns
returns g c = search (tries_end, rules)
