use Rattle.wordroom.proofs.Changes.{none_placed, word_written}
use borrow.Author.Rules.{rules}
use Rattle.wordroom.proofs.WordRoom.write_word.Goals as goal

pub returns-clause-room : goal.returns-clause-room
returns-clause-room c = search (word_written, none_placed, c.fill.ensures.after (λ y e. e), c.reverse.ensures.after, rules)
