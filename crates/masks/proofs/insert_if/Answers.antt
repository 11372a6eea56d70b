use Rattle.masks.proofs.Laws.{shifted_test}
use Rattle.masks.proofs.insert_if.Goals as goal

pub returns : goal.returns
returns c = rw c.from.ensures (shifted_test 64 c.args.test c.args.q.0 c.args.set c.requires)
