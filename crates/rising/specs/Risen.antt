-- The blockers after the rises, and what comes of their room. Assumes nothing: these are definitions.
use Rattle.std.specs.Prelude.{ℕ, ◌≤◌, ◌≡◌, List, [], length}
use Rattle.machine.specs.System.{System}
use Rattle.machine.specs.Machine.{Blocker, rise_along, rise_levels}
use Rattle.machine.specs.Lent.{BlockerRoom, with_table}

-- the blockers after the rises at level j
abbrev pub risen_at : System → ℕ → List Blocker → List Blocker
risen_at S j table = rise_along S (length table) j [] table

-- the blockers after the rises at each level from 1 to `top`
abbrev pub risen_by : System → ℕ → List Blocker → List Blocker
risen_by S top table = rise_levels S top 1 table

-- What comes of a room in which `table` is to stand for the first `held` entries: as many blockers as `held'`, and no more than were held.
pub record Becomes (held : ℕ) (table : List Blocker) (room : BlockerRoom) (held' : ℕ) (room' : BlockerRoom) : Type 0 where
  pub count : held' ≡ length table
  pub tables : room' ≡ with_table held table room
  pub few : held' ≤ held
