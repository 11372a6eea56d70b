use Rattle.blockers.proofs.Changes.{enter_full, enter_room, enter_held}
use borrow.Author.Rules.{rules}
use Rattle.blockers.proofs.room.BlockerRoom.enter.Goals as goal

pub returns-then-self-end-clause-enters : goal.returns-then-self-end-clause-enters
returns-then-self-end-clause-enters c = search (enter_full, rules)

pub put-requires : goal.put-requires
put-requires c = search (enter_room c.close_up-end.ensures.closed c.requires, rules)

pub returns-clause-enters : goal.returns-clause-enters
returns-clause-enters c = search (enter_held, rules)
