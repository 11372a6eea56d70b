use Rattle.blockers.proofs.Walks.{four_joined}
use Rattle.blockers.proofs.one_of_four.Goals as goal

pub returns : goal.returns
returns c = four_joined _ _ _ _
