use Rattle.choices.proofs.Choosing.{way_first, way_second}
use borrow.Author.Rules.{rules}
use Rattle.choices.proofs.grow.Goals as goal

pub returns-then-way-eq0 : goal.returns-then-way-eq0
returns-then-way-eq0 c = search (way_first, rules)

pub returns : goal.returns
returns c = search (way_second, rules)
