use borrow.Author.Rules.{rules}
use Rattle.passing.proofs.States.{states_start, state_known, states_go, states_end}
use Rattle.passing.proofs.by_each.Goals as goal

pub loop-q-init : goal.loop-q-init
loop-q-init c = search (states_start, rules)

pub with_state-y-requires : goal.with_state-y-requires
with_state-y-requires c = search (state_known, rules)

pub loop-q-preserved : goal.loop-q-preserved
loop-q-preserved c = search (states_go, rules)

pub returns : goal.returns
returns c = search (states_end, rules)
