-- The tables that the C interface lends, as a contract names them by what the parameters point to: before a call, and after it. Assumes nothing: these are
-- definitions.
use Rattle.std.specs.Prelude.{ℕ, List}
use Rattle.machine.specs.Machine.{Blocker}
use Rattle.machine.specs.Lent.{Lent, lent_of, room_of, word_room_of, blockers_in}

-- a lent table, at one moment of a call
abbrev pub Table : Type 0
Table = List ℕ

abbrev pub lent_before : Table → Table → Table → Table → Table → Lent
lent_before masks levels entered cases symbols = lent_of (room_of masks levels entered) (word_room_of cases symbols)

abbrev pub lent_after : Table → Table → Table → Table → Table → Lent
lent_after masks levels entered cases symbols = lent_before masks levels entered cases symbols

-- masks and levels, where only these are lent: their blockers
abbrev pub blockers_before : Table → Table → List Blocker
blockers_before masks levels = blockers_in masks levels
