use Rattle.hitting.proofs.Planes.{carry_stops, carry_goes, carry_ends}
use borrow.Author.Rules.{rules}
use Rattle.hitting.proofs.picking.count_set.Goals as goal

pub returns-then-carry-eq0 : goal.returns-then-carry-eq0
returns-then-carry-eq0 c = search (carry_stops, rules)

pub loop-plane-preserved : goal.loop-plane-preserved
loop-plane-preserved c = search (carry_goes, rules)

pub returns : goal.returns
returns c = search (carry_ends, rules)
