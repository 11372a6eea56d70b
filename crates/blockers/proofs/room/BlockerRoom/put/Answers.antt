use mathlib.Core.Path.{refl}
use Rattle.blockers.specs.Room.{put_at}
use Rattle.blockers.proofs.room.BlockerRoom.put.Goals as goal

pub returns-clause-put : goal.returns-clause-put
unfolding put_at
returns-clause-put c = refl
