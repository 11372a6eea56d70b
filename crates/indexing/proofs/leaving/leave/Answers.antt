use borrow.Author.Rules.{rules}
use Rattle.indexing.proofs.Leavers.{leave_goes, leave_ends}
use Rattle.indexing.proofs.leaving.leave.Goals as goal

pub loop-i-preserved : goal.loop-i-preserved
loop-i-preserved c = leave_goes c.loop-i.invariant c.in-Some.ensures c.sunk.ensures (search rules)

pub returns : goal.returns
returns c = leave_ends c.loop-i.invariant (search rules)
