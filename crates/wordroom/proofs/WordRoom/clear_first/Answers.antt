use Rattle.wordroom.proofs.Changes.{none_placed, word_cleared}
use borrow.Author.Rules.{rules}
use Rattle.wordroom.proofs.WordRoom.clear_first.Goals as goal

pub returns-clause-room : goal.returns-clause-room
returns-clause-room c = search (word_cleared, none_placed, rules)
