-- The levels from 1 on: a loop over them, and the rises at each. Assumes nothing.
use Prim.Native.Nat.{ℕ, suc, ◌+◌, ◌-◌, ◌≤◌, ◌<◌}
use mathlib.Core.Path.{◌≡◌, sym, ap, ap₂, ◌∙◌}
use mathlib.Core.Bool.{Bool, true}
use mathlib.Core.List.{List}
use native.Mathlib.Numerals.{add-one}
use native.Mathlib.Omega.{arith}
use borrow.Author.Tests.{leb-true}
use lib.Dec.{leb}
use Rattle.machine.specs.System.{System}
use Rattle.machine.specs.Machine.{Blocker, rise_levels}
use Rattle.machine.specs.Lent.{BlockerRoom}
use Rattle.blockers.specs.Room.{HoldsRoom, table_of}
use Rattle.rising.specs.Risen.{risen_at, risen_by, Becomes}
use Rattle.rising.proofs.Composing.{becomes_table, becomes_same, Changed, unchanged, changed_further}

-- a loop over the levels up to `top`, before level j
pub record LevelsTo (top j : ℕ) : Type 0 where
  pub most : j ≤ top + 1

-- where the test at its head holds, one more level fits and brings the end nearer
module _ {top j : ℕ} (to : LevelsTo top j) {within : Bool} (t : within ≡ true) (test : within ≡ leb j top) where
  pub at_most : j ≤ top
  at_most = leb-true j top (sym test ∙ t)

  pub level_fits : {limit : ℕ} → top < limit → j < limit
  level_fits h = omega (arith, at_most)

  pub level_nears : {next : ℕ} → next ≡ j + 1 → (top + 1) - next < (top + 1) - j
  level_nears e = omega (arith, at_most)

  pub level_next : {next : ℕ} → next ≡ j + 1 → LevelsTo top next
  level_next e = record { most = omega (arith, at_most) }

-- The rises before level j: the table as it stands took the first one's place, and what the levels from j on make of it is what all make of the first.
pub record LevelsRisen (S : System) (first : BlockerRoom) (held top count j : ℕ) (room : BlockerRoom) : Type 0 where
  pub most : j ≤ top + 1
  pub changed : Changed first held count room
  pub left : rise_levels S ((top + 1) - j) j (table_of count room) ≡ risen_by S top (table_of held first)

pub levels_start : {S : System} {room : BlockerRoom} {held top : ℕ} → HoldsRoom held room → LevelsRisen S room held top held 1 room
levels_start {S} {room} {held} {top} holds =
    let e : (top + 1) - 1 ≡ top = omega arith in
    record {
      most = omega arith;
      changed = unchanged holds;
      left = ap (λ (count : ℕ). rise_levels S count 1 (table_of held room)) e;
    }

module _ {S : System} {first : BlockerRoom} {held top count j : ℕ} {room : BlockerRoom} (risen : LevelsRisen S first held top count j room) where
  pub levels_go : {count' : ℕ} {room' : BlockerRoom} → Becomes count (risen_at S j (table_of count room)) room count' room' → j ≤ top
      → LevelsRisen S first held top count' (j + 1) room'
  unfolding rise_levels
  levels_go {count'} {room'} change l =
      let e : (top + 1) - j ≡ suc ((top + 1) - (j + 1)) = omega arith in
      record {
        most = omega arith;
        changed = changed_further risen.changed change;
        left =
            ap₂ (λ (at : ℕ) (table : List Blocker). rise_levels S ((top + 1) - (j + 1)) at table) (add-one j) (becomes_table change)
            ∙ ap (λ (turns : ℕ). rise_levels S turns j (table_of count room)) (sym e)
            ∙ risen.left;
      }

  pub levels_end : top < j → Becomes held (risen_by S top (table_of held first)) first count room
  unfolding rise_levels
  levels_end l =
      let e : 0 ≡ (top + 1) - j = omega arith in
      becomes_same risen.changed.becomes (ap (λ (turns : ℕ). rise_levels S turns j (table_of count room)) e ∙ risen.left)

-- the last level
pub levels_last : {S : System} {first : BlockerRoom} {held top count j : ℕ} {room : BlockerRoom} {count' : ℕ} {room' : BlockerRoom}
    → LevelsRisen S first held top count j room → Becomes count (risen_at S j (table_of count room)) room count' room' → j ≤ top → top ≤ j
    → Becomes held (risen_by S top (table_of held first)) first count' room'
levels_last risen change l h = levels_end (levels_go risen change l) (omega arith)
