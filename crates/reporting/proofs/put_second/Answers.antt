use borrow.Author.Rules.{rules}
use Rattle.reporting.proofs.SecondLine.{frame_put, word_put, none_put}
use Rattle.reporting.proofs.put_second.Goals as goal

pub returns-in-0-clause-bytes : goal.returns-in-0-clause-bytes
returns-in-0-clause-bytes c = search (frame_put, rules)

pub returns-in-1-clause-bytes : goal.returns-in-1-clause-bytes
returns-in-1-clause-bytes c = search (word_put, rules)

pub returns-in_default-clause-bytes : goal.returns-in_default-clause-bytes
returns-in_default-clause-bytes c = search (none_put, rules)
