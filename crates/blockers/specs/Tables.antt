-- The structs that lend the tables, as the machine's rooms and blockers. Assumes nothing: these are definitions.
use Rattle.std.specs.Prelude.{◌≡◌, List}
use Rattle.machine.specs.Machine.{Blocker}
use Rattle.machine.specs.Lent.{BlockerRoom, room_of, blockers_in}
use Rattle.blockers.specs.declared.room.BlockerRoom as Struct
use Rattle.blockers.specs.declared.reasons.Blockers.{Blockers}

-- what the three tables hold
abbrev pub room_in : Struct.BlockerRoom → BlockerRoom
room_in room = room_of room.masks.now room.levels.now room.entered.now

-- the blockers that masks and levels say
abbrev pub held_in : Blockers → List Blocker
held_in blockers = blockers_in blockers.masks.now blockers.levels.now

-- the tables are the ones that were lent
abbrev pub SameRoom : Struct.BlockerRoom → Struct.BlockerRoom → Type 0
SameRoom old new =
    (new.masks.ghost_name ≡ old.masks.ghost_name) × (new.levels.ghost_name ≡ old.levels.ghost_name) × (new.entered.ghost_name ≡ old.entered.ghost_name)
