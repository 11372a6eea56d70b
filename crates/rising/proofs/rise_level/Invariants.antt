use Prim.Native.Nat.{◌-◌}
use Rattle.machine.specs.Runs.{system_of}
use Rattle.blockers.specs.Tables.{room_in, SameRoom}
use Rattle.rising.proofs.Along.{Walked}
use Rattle.rising.proofs.rise_level.Given as goal

abbrev pub invariant-loop-place : goal.invariant-loop-place
invariant-loop-place l = record {
  walked : Walked (system_of l.image) (room_in l.fn.room) l.held l.level.0 l.count l.place (room_in l.room);
  same : SameRoom l.fn.room l.room;
}

abbrev pub decreases-loop-place : goal.decreases-loop-place
decreases-loop-place l = l.count - l.place
