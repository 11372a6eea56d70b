use borrow.Author.Rules.{rules}
use Rattle.masks.specs.Sets.{without}
use Rattle.masks.proofs.without.Goals as goal

pub returns : goal.returns
unfolding without
returns c = search rules
