-- The struct that lends the tables, as the machine's word room. Assumes nothing: these are definitions.
use Rattle.std.specs.Prelude.{◌≡◌}
use Rattle.machine.specs.Lent.{WordRoom, word_room_of}
use Rattle.wordroom.specs.declared.WordRoom as Struct

-- what the two tables hold
abbrev pub word_in : Struct.WordRoom → WordRoom
word_in room = word_room_of room.cases.now room.symbols.now

-- the tables are the ones that were lent
abbrev pub SameWord : Struct.WordRoom → Struct.WordRoom → Type 0
SameWord old new = (new.cases.ghost_name ≡ old.cases.ghost_name) × (new.symbols.ghost_name ≡ old.symbols.ghost_name)
