use Rattle.wordroom.proofs.Changes.{pushed}
use borrow.Author.Rules.{rules}
use Rattle.wordroom.proofs.WordRoom.push.Goals as goal

pub returns-clause-room : goal.returns-clause-room
returns-clause-room c = search (pushed, rules)
