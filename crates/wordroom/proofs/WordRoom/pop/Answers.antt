use Rattle.wordroom.proofs.Changes.{popped}
use borrow.Author.Rules.{rules}
use Rattle.wordroom.proofs.WordRoom.pop.Goals as goal

pub returns-clause-room : goal.returns-clause-room
returns-clause-room c = search (popped, rules)
