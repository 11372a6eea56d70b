use borrow.Author.Rules.{rules}
use Rattle.closing.proofs.Indexed.{all_become}
use Rattle.closing.proofs.rise_all.Goals as goal

pub returns-clause-risen : goal.returns-clause-risen
returns-clause-risen c = all_become c.sink.ensures.risen c.sink.ensures.masks c.frame.ensures.frame c.is_indexed.ensures (search rules) c.held.ensures.levels c.requires.0
