-- What rises by an index leave of the levels while nothing closes up. Assumes nothing: these are definitions.
use Rattle.std.specs.Prelude.{ℕ, ◌≤◌, ◌<◌, ◌≡◌, Bool, true, false, List, get_or, drop}
use Rattle.lists.specs.Lists.{any, each_from}
use Rattle.machine.specs.System.{System}
use Rattle.machine.specs.Machine.{Blocker, covers, frame}
use Rattle.machine.specs.Lent.{room_of}
use Rattle.blockers.specs.Room.{table_of}
use Rattle.indexing.specs.Index.{RisenIn}
use Rattle.rising.specs.Risen.{risen_at, risen_by}

-- each backward set of the mask is a subset of a blocker of level j or more
abbrev pub each_covered : System → List Blocker → ℕ → ℕ → Bool
each_covered S table j mask = each_from (λ s. any (covers j (S.backward s mask)) table) S.symbols 0

-- the blocker at `place` has risen if the test holds, else the levels are as before
pub record TriedIn (test : Bool) (place held : ℕ) (masks levels levels' : List ℕ) : Type 0 where
  pub stays : test ≡ false → levels' ≡ levels
  pub rises : test ≡ true → RisenIn place held masks levels levels'

-- The rises at level j, where the blockers of level 0 are those that have left, whenever they entered.
pub record LevelRisen (S : System) (j held : ℕ) (masks levels levels' : List ℕ) : Type 0 where
  pub behind : drop held levels' ≡ drop held levels
  pub was : (i : ℕ) → i < held → j ≤ get_or levels' i 0 → j ≤ get_or levels i 0
  pub table : (entered : List ℕ) → frame 0 (table_of held (room_of masks levels' entered)) ≡ risen_at S j (frame 0 (table_of held (room_of masks levels entered)))

-- and those at each level from 1 to `top`
pub record AllRisen (S : System) (top held : ℕ) (masks levels levels' : List ℕ) : Type 0 where
  pub behind : drop held levels' ≡ drop held levels
  pub table : (entered : List ℕ) → frame 0 (table_of held (room_of masks levels' entered)) ≡ risen_by S top (frame 0 (table_of held (room_of masks levels entered)))
