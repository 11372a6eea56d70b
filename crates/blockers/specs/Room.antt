-- The blocker room as three lent tables: what stays when a blocker enters or rises, and what the tables then hold. Assumes nothing: these are definitions.
use Rattle.std.specs.Prelude.{ℕ, ◌+◌, ◌-◌, ◌≤◌, ◌<◌, ◌≡◌, List, [], ◌∷◌, ◌++◌, leb, length, take, drop, set, replicate, Option, Some, None}
use Rattle.lists.specs.Tests.{choose}
use Rattle.machine.specs.Machine.{Blocker, staying, risen, frame}
use Rattle.machine.specs.Lent.{BlockerRoom, blocker_at, blockers_from, column, each_table, with_table}

-- the first `held` places of masks and levels are there
pub record Holds (held : ℕ) (masks levels : List ℕ) : Type 0 where
  pub in_masks : held ≤ length masks
  pub in_levels : held ≤ length levels

-- and of the third table
pub record HoldsRoom (held : ℕ) (room : BlockerRoom) : Type 0 where
  pub read : Holds held room.masks room.levels
  pub in_entered : held ≤ length room.entered

-- the blockers in use
abbrev pub table_of : ℕ → BlockerRoom → List Blocker
table_of held room = blockers_from room held 0

-- the room with Y at a place
unfoldable pub put_at : Blocker → ℕ → BlockerRoom → BlockerRoom
put_at Y place = each_table (λ field before. set before place (field Y))

-- a table whose first places were written over
unfoldable pub over : List ℕ → List ℕ → List ℕ
over front before = front ++ drop (length front) before

-- the room with 0 in the places from `from` to `to`
unfoldable pub cleared_between : ℕ → ℕ → BlockerRoom → BlockerRoom
cleared_between from to = each_table (λ field before. over (take from before ++ replicate (to - from) 0) before)

-- Of the blockers from `from` to `to`, those that stay for Y stand from `start` on, the last before `end`, and 0 behind them up to `to`: no more than
-- there were. All else is as before.
pub record ClosedUp (Y : Blocker) (start from to end : ℕ) (room room' : BlockerRoom) : Type 0 where
  pub count : end ≡ start + length (staying Y (blockers_from room (to - from) from))
  pub few : end ≤ start + (to - from)
  pub tables : room'
      ≡ each_table (λ field before.
      over (take start before ++ column field (staying Y (blockers_from room (to - from) from)) ++ replicate (to - end) 0) before) room

-- "Blockers of level ≤ i that are subsets of Y leave and the rest close up; Y enters at the end"
unfoldable pub entering : Blocker → List Blocker → List Blocker
entering Y table = staying Y table ++ Y ∷ []

-- "Room is judged after the leaving": the answer, and the blockers in use, where a table that was `old` is to become `new`
unfoldable pub entered_answer : ℕ → List Blocker → Option ℕ
entered_answer places new = choose (leb (length new) places) (Some (length new)) None

unfoldable pub entered_table : ℕ → List Blocker → List Blocker → List Blocker
entered_table places new old = choose (leb (length new) places) new old

-- what comes of Y that is to enter
pub record Enters (held : ℕ) (Y : Blocker) (room : BlockerRoom) (answer : Option ℕ) (room' : BlockerRoom) : Type 0 where
  pub answers : answer ≡ entered_answer (length room.masks) (entering Y (table_of held room))
  pub tables : room' ≡ with_table held (entered_table (length room.masks) (entering Y (table_of held room)) (table_of held room)) room

-- "rises to j+1 in place; other subsets of it of level ≤ j+1 leave and the rest close up"
unfoldable pub risen_among : List Blocker → Blocker → List Blocker → List Blocker
risen_among passed blocker ahead = staying (risen blocker) passed ++ risen blocker ∷ staying (risen blocker) ahead

-- the blockers in use after the one at `place` has risen
abbrev pub risen_table : ℕ → BlockerRoom → ℕ → List Blocker
risen_table held room place =
    risen_among (blockers_from room place 0) (blocker_at room place) (blockers_from room (held - (place + 1)) (place + 1))

-- What comes of the blocker at `place` when it rises: it stands at `place'` then, among `held'` in all. No more are held, nor left behind it.
pub record RisesAt (held place : ℕ) (room : BlockerRoom) (held' place' : ℕ) (room' : BlockerRoom) : Type 0 where
  pub count : held' ≡ length (risen_table held room place)
  pub stands : place' ≡ length (staying (risen (blocker_at room place)) (blockers_from room place 0))
  pub tables : room' ≡ with_table held (risen_table held room place) room
  pub few : held' ≤ held
  pub below : place' < held'
  pub left : held' - place' ≤ held - place

-- What comes of a table of which only the frame is to stay, "the blockers above j": as many as `held'`, and no more than were held.
pub record Frames (held j : ℕ) (room : BlockerRoom) (held' : ℕ) (room' : BlockerRoom) : Type 0 where
  pub count : held' ≡ length (frame j (table_of held room))
  pub tables : room' ≡ with_table held (frame j (table_of held room)) room
  pub few : held' ≤ held
