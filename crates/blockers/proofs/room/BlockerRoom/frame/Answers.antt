use Rattle.blockers.proofs.Changes.{framed}
use Rattle.blockers.proofs.room.BlockerRoom.frame.Goals as goal

pub returns-clause-frame : goal.returns-clause-frame
returns-clause-frame c = framed c.held.ensures.masks c.each_fits.ensures c.close_up.ensures.closed
