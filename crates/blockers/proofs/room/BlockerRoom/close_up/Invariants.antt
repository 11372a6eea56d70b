use Rattle.machine.specs.Lent.{blocker_of}
use Rattle.blockers.specs.Tables.{room_in, SameRoom}
use Rattle.blockers.proofs.Closing.{ClosingUp}
use Rattle.blockers.proofs.room.BlockerRoom.close_up.Given as goal

abbrev pub invariant-loop-i : goal.invariant-loop-i
invariant-loop-i l =
    ClosingUp (blocker_of l.blocker.mask l.blocker.level.0) l.start l.from l.to (room_in l.fn.self) l.kept l.i (room_in l.self) × SameRoom l.fn.self l.self
