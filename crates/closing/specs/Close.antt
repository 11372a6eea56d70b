-- What a close makes of the blockers. Assumes nothing: these are definitions.
use Rattle.std.specs.Prelude.{ℕ, ◌≤◌, ◌≡◌, Bool, true, false, List, length}
use Rattle.std.specs.Prelude as Std
use Rattle.std.proofs.Math.Option.{Option, none, some}
use Rattle.lists.specs.Lists.{first_from}
use Rattle.machine.specs.System.{System}
use Rattle.machine.specs.Machine.{Blocker, none_at, frame}
use Rattle.machine.specs.Lent.{BlockerRoom, with_table}
use Rattle.blockers.specs.Room.{table_of}
use Rattle.blockers.specs.declared.Level.{Level}
use Rattle.rising.specs.Risen.{risen_by}
use Rattle.closing.specs.declared.Closed.{Closed}

-- the lowest level from 1 to `top` that holds no blocker
unfoldable pub lowest_none : List Blocker → ℕ → Option ℕ
lowest_none table top = first_from (none_at table) top 1

-- the level that was found, or none, as the machine has it
unfoldable pub level_of : Std.Option Level → Option ℕ
level_of Std.None = none
level_of (Std.Some level) = some level.0

-- the frame above that level, or the whole table where there is none
unfoldable pub kept_by : List Blocker → Option ℕ → List Blocker
kept_by table none = table
kept_by table (some j) = frame j table

-- whether there is one
unfoldable pub is_empty : Option ℕ → Bool
is_empty none = false
is_empty (some j) = true

-- the lowest level from 1 to `top` that holds no blocker after the rises
abbrev pub empty_level : System → ℕ → List Blocker → Option ℕ
empty_level S top table = lowest_none (risen_by S top table) top

-- the blockers after the close of level `top`
abbrev pub closed_by : System → ℕ → List Blocker → List Blocker
closed_by S top table = kept_by (risen_by S top table) (empty_level S top table)

-- What comes of a close of level `top`: the blockers that it keeps stand in the room, no more than were held, and the answer is empty where a level
-- holds none after the rises.
pub record Closes (S : System) (top held : ℕ) (room : BlockerRoom) (answer : Closed) (room' : BlockerRoom) : Type 0 where
  pub count : answer.held ≡ length (closed_by S top (table_of held room))
  pub tables : room' ≡ with_table held (closed_by S top (table_of held room)) room
  pub few : answer.held ≤ held
  pub answers : answer.empty ≡ is_empty (empty_level S top (table_of held room))
