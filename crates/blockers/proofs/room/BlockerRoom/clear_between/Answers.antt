use borrow.Author.Rules.{rules}
use Rattle.blockers.proofs.Closing.{zeros_between, clear_written, clear_none}
use Rattle.blockers.proofs.room.BlockerRoom.clear_between.Goals as goal

pub returns-then-to-from-clause-cleared : goal.returns-then-to-from-clause-cleared
returns-then-to-from-clause-cleared c = search (clear_none, rules)

pub returns-clause-cleared : goal.returns-clause-cleared
returns-clause-cleared c = search (clear_written, zeros_between, rules)
