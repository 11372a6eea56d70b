-- What lent tables say of a configuration, and what stands in them after a change: one reading and one writing for all of them. Assumes nothing.
use Rattle.std.specs.Prelude.{ℕ, zero, suc, ◌-◌, min, max, ◌≡◌, List, [], ◌∷◌, ◌++◌, length, get_or, drop, replicate}
use Rattle.machine.specs.Machine.{Blocker, Pending}

-- "Blocker room becomes three tables": the masks, the levels, and the steps with which the blockers entered
pub record BlockerRoom : Type 0 where
  pub masks : List ℕ
  pub levels : List ℕ
  pub entered : List ℕ

abbrev pub room_of : List ℕ → List ℕ → List ℕ → BlockerRoom
room_of masks levels entered = record { masks = masks; levels = levels; entered = entered }

-- "word room (pending cases, symbols)"
pub record WordRoom : Type 0 where
  pub cases : List ℕ
  pub symbols : List ℕ

abbrev pub word_room_of : List ℕ → List ℕ → WordRoom
word_room_of cases symbols = record { cases = cases; symbols = symbols }

-- "A run is lent blocker room .., word room"
pub record Lent : Type 0 where
  pub room : BlockerRoom
  pub word : WordRoom

abbrev pub lent_of : BlockerRoom → WordRoom → Lent
lent_of room word = record { room = room; word = word }

-- its tables are of one length
pub record EvenRoom (room : BlockerRoom) : Type 0 where
  pub levels : length room.masks ≡ length room.levels
  pub entered : length room.masks ≡ length room.entered

-- and so are those of either room
pub record EvenRooms (lent : Lent) : Type 0 where
  pub blockers : EvenRoom lent.room
  pub symbols : length lent.word.cases ≡ length lent.word.symbols

-- the blocker at a place
abbrev pub blocker_at : BlockerRoom → ℕ → Blocker
blocker_at room i = record { mask = get_or room.masks i 0; level = get_or room.levels i 0; entered = get_or room.entered i 0 }

-- the `count` blockers from a place on
unfoldable pub blockers_from : BlockerRoom → ℕ → ℕ → List Blocker
blockers_from room zero at = []
blockers_from room (suc count) at = blocker_at room at ∷ blockers_from room count (suc at)

-- A blocker of which only mask and level are asked, and masks and levels without the third table: when these blockers entered is not said.
abbrev pub blocker_of : ℕ → ℕ → Blocker
blocker_of mask level = record { mask = mask; level = level; entered = 0 }

abbrev pub unstamped_room : List ℕ → List ℕ → BlockerRoom
unstamped_room masks levels = room_of masks levels []

-- the blockers of a table of masks and one of levels: where they differ in length, the shorter says how many
abbrev pub blockers_in : List ℕ → List ℕ → List Blocker
blockers_in masks levels = blockers_from (unstamped_room masks levels) (min (length masks) (length levels)) 0

-- the first `count` pending cases: "the case pending at the highest level in its first place and the lower ones after it, each with the symbol that led
-- to it", so the lowest stands last and comes first here
unfoldable pub pending_first : WordRoom → ℕ → List Pending
pending_first room zero = []
pending_first room (suc count) =
    record { case = get_or room.cases count 0; symbol = get_or room.symbols count 0 } ∷ pending_first room count

-- one field of each entry, in order; and from the last entry to the first, as pending cases stand in their tables
unfoldable pub column : {A : Type 0} → (A → ℕ) → List A → List ℕ
column field [] = []
column field (entry ∷ rest) = field entry ∷ column field rest

unfoldable pub column_back : {A : Type 0} → (A → ℕ) → List A → List ℕ
column_back field [] = []
column_back field (entry ∷ rest) = column_back field rest ++ field entry ∷ []

abbrev pub mask_of : Blocker → ℕ
mask_of blocker = blocker.mask

abbrev pub level_of : Blocker → ℕ
level_of blocker = blocker.level

abbrev pub entered_of : Blocker → ℕ
entered_of blocker = blocker.entered

abbrev pub case_of : Pending → ℕ
case_of p = p.case

abbrev pub symbol_of : Pending → ℕ
symbol_of p = p.symbol

-- what a table holds when new entries stand in place of its first `old` ones: the new entries, 0 in each place that became free, and after them what
-- stood there before
unfoldable pub placed : ℕ → List ℕ → List ℕ → List ℕ
placed old new before = new ++ replicate (old - length new) 0 ++ drop (max old (length new)) before

-- the same change of each table of the blocker room, by the field of a blocker that the table holds
abbrev pub each_table : ((Blocker → ℕ) → List ℕ → List ℕ) → BlockerRoom → BlockerRoom
each_table change room = record {
  masks = change mask_of room.masks;
  levels = change level_of room.levels;
  entered = change entered_of room.entered;
}

-- the room with these blockers in place of its first `old` ones
unfoldable pub with_table : ℕ → List Blocker → BlockerRoom → BlockerRoom
with_table old table = each_table (λ field before. placed old (column field table) before)

-- the room with these cases pending in place of its first `old` ones
unfoldable pub with_pending : ℕ → List Pending → WordRoom → WordRoom
with_pending old pending room = record {
  cases = placed old (column_back case_of pending) room.cases;
  symbols = placed old (column_back symbol_of pending) room.symbols;
}

-- nothing is pending any more, and the word stands from the first place on
unfoldable pub with_word : ℕ → List ℕ → WordRoom → WordRoom
with_word old word room = record { cases = placed old [] room.cases; symbols = placed old word room.symbols }

-- every place of both rooms 0
abbrev pub zeroed : Lent → Lent
zeroed lent = record {
  room = each_table (λ field before. replicate (length before) 0) lent.room;
  word = record { cases = replicate (length lent.word.cases) 0; symbols = replicate (length lent.word.symbols) 0 };
}
