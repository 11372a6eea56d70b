use Rattle.machine.specs.Runs.{system_of}
use Rattle.blockers.specs.Tables.{room_in, SameRoom}
use Rattle.rising.proofs.Levels.{LevelsRisen}
use Rattle.rising.proofs.rise_levels.Given as goal

abbrev pub invariant-loop-level : goal.invariant-loop-level
invariant-loop-level l = record {
  risen : LevelsRisen (system_of l.image) (room_in l.fn.room) l.held l.fn.top.0 l.count l.level (room_in l.room);
  same : SameRoom l.fn.room l.room;
}
