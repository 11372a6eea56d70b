-- What stands in the room once those that sank have closed up. Assumes nothing.
use Prim.Native.Nat.{ℕ, zero, suc, ◌+◌, ◌-◌, ◌≤◌, ◌<◌, max}
use mathlib.Core.Path.{◌≡◌, refl, sym, ap, subst, ◌∙◌}
use mathlib.Core.Bool.{Bool, true, false}
use mathlib.Core.List.{List, [], ◌∷◌, ◌++◌}
use native.Mathlib.Omega.{arith}
use borrow.Author.Tests.{eqb-false, lt-ltb}
use lib.Dec.{eqb}
use lib.ListN.{length, take, drop, replicate}
use lib.Seq.{get_or-take, length-take-le}
use Rattle.lists.specs.Tests.{neg, ◌or◌, choose}
use Rattle.lists.specs.Lists.{any, keep}
use Rattle.lists.proofs.Tests.{fails}
use Rattle.machine.specs.System.{System}
use Rattle.machine.specs.Machine.{Blocker, none_at, frame}
use Rattle.machine.specs.Lent.{BlockerRoom, room_of, blockers_from, column, mask_of, level_of, entered_of, placed, with_table}
use Rattle.machine.proofs.LentTables.{column_length}
use Rattle.blockers.specs.Room.{HoldsRoom, table_of, Frames}
use Rattle.blockers.proofs.Parts.{part_none_at}
use Rattle.rising.specs.Risen.{risen_by, Becomes}
use Rattle.sinking.specs.Sunk.{AllRisen}
use Rattle.closing.specs.ByIndex.{NoneLeft}

-- where no level is 0, the table without those of level 0 is the table
frame_whole : (table : List Blocker) → neg (any (λ blocker. eqb blocker.level 0) table) ≡ true → frame 0 table ≡ table
unfolding frame keep any neg ◌or◌ choose
frame_whole [] e = refl
frame_whole (b ∷ table) e = at (eqb b.level 0) refl (λ f. frame_whole table f) e
  where
    at : (zero_test : Bool) → eqb b.level 0 ≡ zero_test
        → (neg (any (λ blocker. eqb blocker.level 0) table) ≡ true → frame 0 table ≡ table)
        → neg (zero_test or any (λ blocker. eqb blocker.level 0) table) ≡ true → frame 0 (b ∷ table) ≡ b ∷ table
    at true q rec f = absurd (fails (sym f) tt)
    at false q rec f =
        rw (lt-ltb 0 b.level (positive b.level (eqb-false b.level 0 q))) (ap (λ (rest : List Blocker). b ∷ rest) (rec f))
      where
        positive : (n : ℕ) → (n ≡ 0 → ⊥) → 0 < n
        positive n f = omega arith

-- the blockers in use are read from the masks in use
masks_part : (held : ℕ) (masks levels entered : List ℕ) (count at : ℕ) → at + count ≤ held
    → blockers_from (room_of (take held masks) levels entered) count at ≡ blockers_from (room_of masks levels entered) count at
unfolding blockers_from
masks_part held masks levels entered zero at h = refl
masks_part held masks levels entered (suc count) at h =
    rw (get_or-take held masks at 0 (omega arith), masks_part held masks levels entered count (suc at) (omega arith))

table_part : (held : ℕ) (masks levels entered : List ℕ) → held ≤ length masks
    → table_of (length (take held masks)) (room_of (take held masks) levels entered) ≡ table_of held (room_of masks levels entered)
table_part held masks levels entered l =
    ap (λ (count : ℕ). table_of count (room_of (take held masks) levels entered)) (length-take-le held masks l)
    ∙ masks_part held masks levels entered held 0 (omega arith)

-- what closes up behind the table's end goes by what stands there alone
placed_behind : (old : ℕ) (new before other : List ℕ) → length new ≤ old → drop old before ≡ drop old other → placed old new before ≡ placed old new other
unfolding placed
placed_behind old new before other l e =
    let most : max old (length new) ≡ old = omega arith in
    rw most (ap (λ (rest : List ℕ). new ++ replicate (old - length new) 0 ++ rest) e)

-- the rises, and what sank has closed up: the room is as the rises of 01 leave it
pub all_become : {S : System} {top held : ℕ} {masks levels levels' entered : List ℕ} {count : ℕ} {room : BlockerRoom}
    → AllRisen S top (length (take held masks)) (take held masks) levels levels' → {masks' : List ℕ} → masks' ≡ masks
    → Frames held 0 (room_of masks' levels' entered) count room
    → {used : List ℕ} {told : Bool} → NoneLeft used told → told ≡ true → used ≡ take held levels → HoldsRoom held (room_of masks levels entered)
    → Becomes held (risen_by S top (table_of held (room_of masks levels entered))) (room_of masks levels entered) count room
unfolding with_table none_at
all_become {S} {top} {held} {masks} {levels} {levels'} {entered} {count} {room} risen {masks'} same framed none t part holds =
    become (subst (λ (m : List ℕ). Frames held 0 (room_of m levels' entered) count room) same framed)
  where
    now : table_of (length (take held masks)) (room_of (take held masks) levels' entered) ≡ table_of held (room_of masks levels' entered)
    now = table_part held masks levels' entered holds.read.in_masks

    whole : frame 0 (table_of held (room_of masks levels entered)) ≡ table_of held (room_of masks levels entered)
    whole =
        frame_whole _ (part_none_at held (room_of masks levels entered) 0 holds.read.in_levels
        ∙ ap (λ (l : List ℕ). neg (any (λ other. eqb other 0) l)) (sym part) ∙ none.none t)

    table : frame 0 (table_of held (room_of masks levels' entered)) ≡ risen_by S top (table_of held (room_of masks levels entered))
    table =
        ap (frame 0) (sym now) ∙ risen.table entered
        ∙ ap (λ (l : List Blocker). risen_by S top (frame 0 l)) (table_part held masks levels entered holds.read.in_masks)
        ∙ ap (λ (l : List Blocker). risen_by S top l) whole

    behind : drop held levels' ≡ drop held levels
    behind = subst (λ (n : ℕ). drop n levels' ≡ drop n levels) (length-take-le held masks holds.read.in_masks) risen.behind

    become : Frames held 0 (room_of masks levels' entered) count room
        → Becomes held (risen_by S top (table_of held (room_of masks levels entered))) (room_of masks levels entered) count room
    become frames =
        let short : length (column level_of (frame 0 (table_of held (room_of masks levels' entered)))) ≤ held =
        omega (arith, column_length level_of (frame 0 (table_of held (room_of masks levels' entered))), frames.count, frames.few) in
        record {
          count = frames.count ∙ ap length table;
          tables = frames.tables
              ∙ ap (λ (l : List ℕ). record {
                masks = placed held (column mask_of (frame 0 (table_of held (room_of masks levels' entered)))) masks;
                levels = l;
                entered = placed held (column entered_of (frame 0 (table_of held (room_of masks levels' entered)))) entered;
              })
              (placed_behind held (column level_of (frame 0 (table_of held (room_of masks levels' entered)))) levels' levels short behind)
              ∙ ap (λ (t : List Blocker). with_table held t (room_of masks levels entered)) table;
          few = frames.few;
        }
