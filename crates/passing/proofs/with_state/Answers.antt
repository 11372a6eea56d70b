use borrow.Author.Rules.{rules}
use Rattle.passing.proofs.Passing.{pass_initial, pass_grown}
use Rattle.passing.proofs.States.{state_few, state_there, state_kept, state_left, state_fails, grown_more}
use Rattle.passing.proofs.with_state.Goals as goal

pub member-requires : goal.member-requires
member-requires c = search (state_few, rules)

pub returns-then-member : goal.returns-then-member
returns-then-member c = search (state_there, rules)

pub insert-more-requires : goal.insert-more-requires
insert-more-requires c = search (state_few, rules)

pub returns-then-subset : goal.returns-then-subset
returns-then-subset c = search (state_fails, pass_initial, rules)

pub returns-then-all_settled : goal.returns-then-all_settled
returns-then-all_settled c = search (state_kept, pass_grown, grown_more, rules)

pub returns : goal.returns
returns c = search (state_left, pass_grown, grown_more, rules)
