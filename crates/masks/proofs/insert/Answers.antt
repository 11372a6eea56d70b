use mathlib.Core.Path.{ap}
use Rattle.masks.specs.Sets.{union}
use Rattle.masks.proofs.Laws.{shifted_one}
use Rattle.masks.proofs.insert.Goals as goal

pub returns : goal.returns
unfolding union
returns c = ap (union c.args.set) (shifted_one 64 c.args.q.0 c.requires)
