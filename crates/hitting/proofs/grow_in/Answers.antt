use Rattle.automata.proofs.Reading.{some_state, states_fit}
use Rattle.hitting.proofs.Grows.{room_enough, few_enough, grown}
use borrow.Author.Rules.{rules}
use Rattle.hitting.proofs.grow_in.Goals as goal

pub gather-requires : goal.gather-requires
gather-requires g c = search (room_enough, rules)

pub pick-picked-requires : goal.pick-picked-requires
pick-picked-requires g c = search (some_state, states_fit, few_enough, rules)

pub full-requires : goal.full-requires
full-requires g c = search (some_state, states_fit, rules)

pub returns : goal.returns
returns g c = search (grown, rules)
