use Rattle.masks.proofs.Laws.{adds_none}
use borrow.Author.Rules.{rules}
use Rattle.masks.proofs.adds_none.Goals as goal

pub returns : goal.returns
returns c = search (adds_none, rules)
