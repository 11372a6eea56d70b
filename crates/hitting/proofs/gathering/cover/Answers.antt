use Rattle.automata.proofs.Reading.{some_state, states_fit}
use Rattle.hitting.proofs.Covering.{cover_inside, cover_place, cover_blocker, cover_state, cover_start, cover_nothing}
use borrow.Author.Rules.{rules}
use Rattle.hitting.proofs.gathering.cover.Goals as goal

pub returns-then-subset : goal.returns-then-subset
returns-then-subset c = search (cover_inside, rules)

pub offset_bounds-pending-place : goal.offset_bounds-pending-place
offset_bounds-pending-place c = search (cover_place, rules)

pub bounds-pending-place : goal.bounds-pending-place
bounds-pending-place c = search (cover_place, rules)

pub full-requires : goal.full-requires
full-requires c = search (some_state, states_fit, rules)

pub insert-requires : goal.insert-requires
insert-requires c = search (cover_state, rules)

pub returns-in-Some-ByBlocker : goal.returns-in-Some-ByBlocker
returns-in-Some-ByBlocker c = search (cover_blocker, rules)

pub returns-in-Some-ByStart : goal.returns-in-Some-ByStart
returns-in-Some-ByStart c = search (cover_start, rules)

pub returns-in-None : goal.returns-in-None
returns-in-None c = search (cover_nothing, rules)
