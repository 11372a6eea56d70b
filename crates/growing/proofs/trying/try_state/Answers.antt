use borrow.Author.Rules.{rules}
use Rattle.passing.proofs.States.{state_there}
use Rattle.growing.proofs.Tries.{state_few, state_tried, set_left, set_kept, grows}
use Rattle.growing.proofs.trying.try_state.Goals as goal

pub member-requires : goal.member-requires
member-requires g c = search (state_few, rules)

pub returns-then-member-clause-set : goal.returns-then-member-clause-set
returns-then-member-clause-set g c = search (state_there, rules)

pub keeps-requires : goal.keeps-requires
keeps-requires g c = (search rules, (search (state_tried, rules), search rules))

pub insert-grown-requires : goal.insert-grown-requires
insert-grown-requires g c = search (state_few, rules)

pub returns-then-keeps-clause-grows : goal.returns-then-keeps-clause-grows
returns-then-keeps-clause-grows g c = search (grows, rules)

pub returns-then-keeps-clause-set : goal.returns-then-keeps-clause-set
returns-then-keeps-clause-set g c = search (set_kept, rules)

pub returns-else-keeps-clause-set : goal.returns-else-keeps-clause-set
returns-else-keeps-clause-set g c = search (set_left, rules)
