-- Tables of which the part in use is lent: its blockers block the same cases as those in use, and that none of them has a level is said by the levels
-- alone. Assumes nothing.
use Prim.Native.Nat.{ℕ, zero, suc, ◌+◌, ◌≤◌, ◌<◌, min}
use mathlib.Core.Path.{◌≡◌, refl, sym, ap, subst, ◌∙◌}
use mathlib.Core.List.{List}
use native.Mathlib.Omega.{arith}
use lib.Dec.{eqb}
use lib.ListN.{length, take, drop}
use lib.Seq.{drop-cons, get_or-take, length-take-le}
use Rattle.lists.specs.Tests.{neg}
use Rattle.lists.specs.Lists.{any}
use Rattle.machine.specs.System.{System}
use Rattle.machine.specs.Machine.{Blocker, none_at, rises}
use Rattle.machine.specs.Lent.{BlockerRoom, blocker_at, blockers_from, unstamped_room, blockers_in}
use Rattle.machine.proofs.Unstamped.{BlockAlike, unstamped_blocks, same_rises}
use Rattle.blockers.specs.Room.{Holds, HoldsRoom, table_of}

-- blockers before a place are read from the part before it
blockers_before_lem : (held : ℕ) (masks levels : List ℕ) (count at : ℕ) → at + count ≤ held
    → blockers_from (unstamped_room (take held masks) (take held levels)) count at ≡ blockers_from (unstamped_room masks levels) count at
unfolding blockers_from
blockers_before_lem held masks levels zero at h = refl
blockers_before_lem held masks levels (suc count) at h =
    rw (get_or-take held masks at 0 (omega arith), get_or-take held levels at 0 (omega arith), blockers_before_lem held masks levels count (suc at) (omega arith))

-- the blockers of the part in use are those in use
part_blockers : (held : ℕ) (masks levels : List ℕ) → held ≤ length masks → held ≤ length levels
    → blockers_in (take held masks) (take held levels) ≡ blockers_from (unstamped_room masks levels) held 0
part_blockers held masks levels m l =
    let count : min (length (take held masks)) (length (take held levels)) ≡ held =
    omega (arith, length-take-le held masks m, length-take-le held levels l) in
    ap (λ (n : ℕ). blockers_from (unstamped_room (take held masks) (take held levels)) n 0) count
    ∙ blockers_before_lem held masks levels held 0 (omega arith)

-- a level is sought among blockers as among their levels
level_among : (room : BlockerRoom) (level count at : ℕ) → at + count ≤ length room.levels
    → any (λ blocker. eqb blocker.level level) (blockers_from room count at) ≡ any (λ other. eqb other level) (take count (drop at room.levels))
unfolding any blockers_from
level_among room level zero at h = refl
level_among room level (suc count) at h =
    rw (drop-cons room.levels at 0 (omega arith), level_among room level count (suc at) (omega arith))

-- that no blocker in use has a level is said by the part of the levels in use
pub part_none_at : (held : ℕ) (room : BlockerRoom) (level : ℕ) → held ≤ length room.levels
    → none_at (table_of held room) level ≡ neg (any (λ other. eqb other level) (take held room.levels))
unfolding none_at
part_none_at held room level h = ap neg (level_among room level held 0 (omega arith))

-- what a caller that lends the part in use knows of it
module _ {held : ℕ} {masks levels : List ℕ} (holds : Holds held masks levels) where
  pub part_masks : held ≡ length (take held masks)
  part_masks = sym (length-take-le held masks holds.in_masks)

  pub part_levels : held ≡ length (take held levels)
  part_levels = sym (length-take-le held levels holds.in_levels)

  pub part_paired : length (take held masks) ≡ length (take held levels)
  part_paired = sym part_masks ∙ part_levels

  pub part_unstamped : blockers_in (take held masks) (take held levels) ≡ blockers_from (unstamped_room masks levels) held 0
  part_unstamped = part_blockers held masks levels holds.in_masks holds.in_levels

  pub part_place : {place : ℕ} → place < held → place < length (take held masks)
  part_place l = omega (arith, part_masks)

module _ {held : ℕ} {room : BlockerRoom} (holds : HoldsRoom held room) where
  -- the part in use blocks what the blockers in use block
  pub part_alike : (initial : ℕ) → BlockAlike initial (blockers_in (take held room.masks) (take held room.levels)) (table_of held room)
  part_alike initial =
      subst (λ (table : List Blocker). BlockAlike initial table (table_of held room))
      (sym (part_blockers held room.masks room.levels holds.read.in_masks holds.read.in_levels)) (unstamped_blocks initial room held 0)

  -- so a blocker rises by it if it rises by them
  pub part_rises_lem : (S : System) (j : ℕ) {place : ℕ} → place < held
      → rises S (blockers_in (take held room.masks) (take held room.levels)) j
      (blocker_at (unstamped_room (take held room.masks) (take held room.levels)) place)
      ≡ rises S (table_of held room) j (blocker_at room place)
  unfolding rises
  part_rises_lem S j {place} l =
      same_rises S (part_alike S.initial) j (blocker_at (unstamped_room (take held room.masks) (take held room.levels)) place)
      ∙ rw (get_or-take held room.masks place 0 l, get_or-take held room.levels place 0 l)
