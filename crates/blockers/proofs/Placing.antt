-- What the blocker room holds when new blockers stand in place of the old ones: what a caller reads there, and how blockers that close up come to stand
-- so. Assumes nothing.
use Prim.Native.Nat.{ℕ, zero, suc, ◌+◌, ◌-◌, ◌≤◌, ◌<◌, max}
use mathlib.Core.Path.{◌≡◌, refl, sym, ap, ap₂, subst, ◌∙◌}
use mathlib.Core.Bool.{Bool, true, false}
use mathlib.Core.List.{List, [], ◌∷◌, ◌++◌, append-nil}
use native.Mathlib.Nat.{sub-zero}
use native.Mathlib.Omega.{arith}
use lib.ListN.{length, take, drop, get_or, set, replicate, length-append, length-replicate}
use lib.Seq.{append_snoc, drop-cons, take_at, set_split}
use Rattle.lists.specs.Tests.{neg, choose}
use Rattle.lists.specs.Lists.{keep}
use Rattle.lists.proofs.Lists.{keep_length}
use Rattle.machine.specs.Machine.{Blocker, leaves, staying}
use Rattle.machine.specs.Lent.{BlockerRoom, EvenRoom, blocker_at, blockers_from, column, mask_of, level_of, entered_of, placed, each_table, with_table}
use Rattle.machine.proofs.LentTables.{
  column_length,
  column_append,
  placed_length,
  placed_front,
  behind,
  placed_behind,
  drop_placed,
  tables_same,
  read_part,
  read_back_table,
}
use Rattle.blockers.specs.Room.{HoldsRoom, table_of, put_at, over, ClosedUp}
use Rattle.blockers.proofs.Over.{over_behind, over_drop}
use Rattle.blockers.proofs.Closing.{AsLong, tables_within, same_blocker}

-- blockers behind a place, where the room is as before
blockers_behind : (room room' : BlockerRoom) (count at : ℕ) → ((i : ℕ) → at ≤ i → blocker_at room' i ≡ blocker_at room i)
    → blockers_from room' count at ≡ blockers_from room count at
unfolding blockers_from
blockers_behind room room' zero at same = refl
blockers_behind room room' (suc count) at same =
    ap₂ (λ (first : Blocker) (rest : List Blocker). first ∷ rest) (same at (omega arith))
    (blockers_behind room room' count (suc at) (λ i h. same i (omega arith)))

-- where as many stay as there were, all stay
keep_whole : (test : Blocker → Bool) (table : List Blocker) → length table ≤ length (keep test table) → keep test table ≡ table
unfolding keep choose
keep_whole test [] l = refl
keep_whole test (blocker ∷ table) l = at (test blocker) (λ h. keep_whole test table h) (keep_length test table) l
  where
    at : (b : Bool) → (length table ≤ length (keep test table) → keep test table ≡ table) → length (keep test table) ≤ length table
        → length (blocker ∷ table) ≤ length (choose b (blocker ∷ keep test table) (keep test table))
        → choose b (blocker ∷ keep test table) (keep test table) ≡ blocker ∷ table
    at true rec short h = ap (λ (rest : List Blocker). blocker ∷ rest) (rec (omega arith))
    at false rec short h = absurd (omega arith)

pub stay_whole : (Y : Blocker) (table : List Blocker) → length table ≤ length (staying Y table) → staying Y table ≡ table
unfolding staying
stay_whole Y table l = keep_whole (λ blocker. neg (leaves Y blocker)) table l

-- new entries, and 0 in each place that became free, are written over the first places
front_length : (old : ℕ) (new : List ℕ) → length (new ++ replicate (old - length new) 0) ≡ max old (length new)
front_length old new = omega (arith, length-append new (replicate (old - length new) 0), length-replicate {A = ℕ} (old - length new) 0)

placed_over : (old : ℕ) (new before : List ℕ) → placed old new before ≡ over (new ++ replicate (old - length new) 0) before
unfolding placed over
placed_over old new before = ap (λ (k : ℕ). (new ++ replicate (old - length new) 0) ++ drop k before) (sym (front_length old new))

-- a room that holds so many places, and so many
holds_both : {a b : ℕ} {room : BlockerRoom} → HoldsRoom a room → HoldsRoom b room → HoldsRoom (max a b) room
holds_both h k = record {
  read = record {
    in_masks = omega (arith, h.read.in_masks, k.read.in_masks);
    in_levels = omega (arith, h.read.in_levels, k.read.in_levels);
  };
  in_entered = omega (arith, h.in_entered, k.in_entered);
}

-- where the tables are of one length, the masks say for all
pub even_holds : {n : ℕ} {room : BlockerRoom} → EvenRoom room → n ≤ length room.masks → HoldsRoom n room
even_holds even l = record { read = record { in_masks = l; in_levels = omega (arith, even.levels) }; in_entered = omega (arith, even.entered) }

pub holds_fewer : {a b : ℕ} {room : BlockerRoom} → b ≤ a → HoldsRoom a room → HoldsRoom b room
holds_fewer l h = record {
  read = record { in_masks = omega (arith, h.read.in_masks); in_levels = omega (arith, h.read.in_levels) };
  in_entered = omega (arith, h.in_entered);
}

module _ (held : ℕ) (room : BlockerRoom) {room' : BlockerRoom} where
  -- The blockers in use are the new ones, and any part of them stands where it stands in the list.
  placed_part : (first part rest : List Blocker) → room' ≡ with_table held (first ++ part ++ rest) room
      → blockers_from room' (length part) (length first) ≡ part
  placed_part first part rest new =
      ap (λ (r : BlockerRoom). blockers_from r (length part) (length first)) new ∙ read_part held first part rest room

  pub placed_table : (table : List Blocker) → room' ≡ with_table held table room → table_of (length table) room' ≡ table
  placed_table table new = ap (λ (r : BlockerRoom). table_of (length table) r) new ∙ read_back_table table held room

  pub placed_first : (first rest : List Blocker) → room' ≡ with_table held (first ++ rest) room → blockers_from room' (length first) 0 ≡ first
  placed_first first rest new = placed_part [] first rest new

  pub placed_rest : (first rest : List Blocker) → room' ≡ with_table held (first ++ rest) room → blockers_from room' (length rest) (length first) ≡ rest
  placed_rest first rest new =
      placed_part first rest [] (subst (λ (all : List Blocker). room' ≡ with_table held all room) (sym (append-nil (first ++ rest))) new)

  -- The tables are as long as before.
  pub placed_long : (table : List Blocker) → room' ≡ with_table held table room → HoldsRoom held room → HoldsRoom (length table) room → AsLong room room'
  unfolding with_table
  placed_long table new holds fits =
      subst (AsLong room) (sym new)
      (record {
        masks = long mask_of room.masks holds.read.in_masks fits.read.in_masks;
        levels = long level_of room.levels holds.read.in_levels fits.read.in_levels;
        entered = long entered_of room.entered holds.in_entered fits.in_entered;
      })
    where
      long : (field : Blocker → ℕ) (before : List ℕ) → held ≤ length before → length table ≤ length before
          → length (placed held (column field table) before) ≡ length before
      long field before h n = placed_length held (column field table) before h (omega (arith, column_length field table))

-- a column of the blockers in use is the front of its table
own_column : (room : BlockerRoom) (field : Blocker → ℕ) (table : List ℕ) → ((i : ℕ) → field (blocker_at room i) ≡ get_or table i 0)
    → (count at : ℕ) → at + count ≤ length table → column field (blockers_from room count at) ≡ take count (drop at table)
unfolding column blockers_from
own_column room field table own zero at l = refl
own_column room field table own (suc count) at l =
    ap₂ (λ (x : ℕ) (rest : List ℕ). x ∷ rest) (own at) (own_column room field table own count (suc at) (omega arith))
    ∙ ap (λ (rest : List ℕ). take (suc count) rest) (sym (drop-cons table at 0 (omega arith)))

-- The blockers in use in their own place: the room is as it was.
pub own_room : {held : ℕ} {room : BlockerRoom} → HoldsRoom held room → with_table held (table_of held room) room ≡ room
unfolding with_table
own_room {held} {room} holds =
    rw (
      own mask_of room.masks (λ i. refl) holds.read.in_masks,
      own level_of room.levels (λ i. refl) holds.read.in_levels,
      own entered_of room.entered (λ i. refl) holds.in_entered,
    )
  where
    own : (field : Blocker → ℕ) (table : List ℕ) → ((i : ℕ) → field (blocker_at room i) ≡ get_or table i 0) → held ≤ length table
        → placed held (column field (blockers_from room held 0)) table ≡ table
    own field table same l =
        ap (λ (new : List ℕ). placed held new table) (own_column room field table same held 0 (omega arith)) ∙ placed_front held table l

-- the blockers that stay, closed up from the first place on
module _ {Y : Blocker} {held end : ℕ} {room room' : BlockerRoom} (closed : ClosedUp Y 0 0 held end room room') where
  whole : staying Y (blockers_from room (held - 0) 0) ≡ staying Y (table_of held room)
  whole = ap (λ (count : ℕ). staying Y (blockers_from room count 0)) (sub-zero held)

  pub close_count : end ≡ length (staying Y (table_of held room))
  close_count = omega (arith, closed.count, ap length whole)

  pub close_placed : room' ≡ with_table held (staying Y (table_of held room)) room
  unfolding with_table
  close_placed = closed.tables ∙ tables_same _ (λ field before. placed held (column field (staying Y (table_of held room))) before) room in_place
    where
      in_place : (field : Blocker → ℕ) (before : List ℕ)
          → over (column field (staying Y (blockers_from room (held - 0) 0)) ++ replicate (held - end) 0) before
          ≡ placed held (column field (staying Y (table_of held room))) before
      in_place field before =
          ap₂ (λ (table : List Blocker) (n : ℕ). over (column field table ++ replicate (held - n) 0) before) whole
          (close_count ∙ sym (column_length field (staying Y (table_of held room))))
          ∙ sym (placed_over held (column field (staying Y (table_of held room))) before)

-- the new entries are a table's front
placed_take : (old : ℕ) (new before : List ℕ) (at : ℕ) → at ≡ length new → take at (placed old new before) ≡ new
placed_take old new before at e = ap (take at) (placed_behind old new before) ∙ take_at new (behind old new before) at (sym e)

-- one more entry, right behind them
placed_store : (old : ℕ) (new before : List ℕ) (at x : ℕ) → at ≡ length new → old ≤ length before → at < length before
    → set (placed old new before) at x ≡ placed old (new ++ x ∷ []) before
unfolding behind
placed_store old new before at x e h l =
    let inside : at < length (placed old new before) = omega (arith, placed_length old new before h (omega arith)) in
    let one : length (new ++ x ∷ []) ≡ suc at = omega (arith, length-append new (x ∷ [])) in
    set_split (placed old new before) at x inside
    ∙ ap₂ (λ (first rest : List ℕ). first ++ x ∷ rest) (placed_take old new before at e) (drop_placed (suc at) old new before (omega arith))
    ∙ sym (placed_behind old (new ++ x ∷ []) before
    ∙ append_snoc new x (behind old (new ++ x ∷ []) before)
    ∙ ap (λ (n : ℕ). new ++ x ∷ (replicate (old - n) 0 ++ drop (max old n) before)) one)

-- behind all that is new the table is as before
module _ (old : ℕ) (new before : List ℕ) (i : ℕ) (h : old ≤ i) (l : length new ≤ i) where
  placed_further : get_or (placed old new before) i 0 ≡ get_or before i 0
  placed_further =
      ap (λ (table : List ℕ). get_or table i 0) (placed_over old new before)
      ∙ over_behind (new ++ replicate (old - length new) 0) before i (omega (arith, front_length old new))

  placed_drop : drop i (placed old new before) ≡ drop i before
  placed_drop =
      ap (drop i) (placed_over old new before) ∙ over_drop (new ++ replicate (old - length new) 0) before i (omega (arith, front_length old new))

-- more entries in place of all up to `to`, right behind the new ones
placed_more : (old to start end : ℕ) (new more before : List ℕ) → start ≡ length new → end ≡ start + length more → old ≤ to → end ≤ to
    → over (take start (placed old new before) ++ more ++ replicate (to - end) 0) (placed old new before) ≡ placed to (new ++ more) before
unfolding over
placed_more old to start end new more before s e o t =
    let front : List ℕ = new ++ more ++ replicate (to - end) 0 in
    let count : end ≡ length (new ++ more) = omega (arith, length-append new more) in
    let size : length front ≡ to = omega (arith, length-append (new ++ more) (replicate (to - end) 0), length-replicate {A = ℕ} (to - end) 0) in
    ap (λ (first : List ℕ). over (first ++ more ++ replicate (to - end) 0) (placed old new before)) (placed_take old new before start s)
    ∙ ap (λ (rest : List ℕ). front ++ rest) (placed_drop old new before (length front) (omega arith) (omega arith))
    ∙ ap (λ (n : ℕ). over (new ++ more ++ replicate (to - n) 0) before) count
    ∙ sym (placed_over to (new ++ more) before)

module _ (held : ℕ) (table : List Blocker) {room room' : BlockerRoom} (new : room' ≡ with_table held table room) where
  -- one more blocker, right behind them
  pub placed_put : (Y : Blocker) (at : ℕ) {room'' : BlockerRoom} → room'' ≡ put_at Y at room' → at ≡ length table
      → HoldsRoom held room → HoldsRoom (suc at) room → room'' ≡ with_table held (table ++ Y ∷ []) room
  unfolding column with_table put_at
  placed_put Y at put e holds fits =
      put
      ∙ ap (λ (r : BlockerRoom). each_table (λ field before. set before at (field Y)) r) new
      ∙ tables_within (holds_both holds fits) _ (λ field before. placed held (column field (table ++ Y ∷ [])) before) store
    where
      store : (field : Blocker → ℕ) (before : List ℕ) → max held (suc at) ≤ length before
          → set (placed held (column field table) before) at (field Y) ≡ placed held (column field (table ++ Y ∷ [])) before
      store field before l =
          placed_store held (column field table) before at (field Y) (e ∙ sym (column_length field table)) (omega arith) (omega arith)
          ∙ ap (λ (all : List ℕ). placed held all before) (sym (column_append field table (Y ∷ [])))

  -- Blockers from further behind close up to them.
  module _ {Y : Blocker} {start from to end : ℕ} {room'' : BlockerRoom} (closed : ClosedUp Y start from to end room' room'')
      (holds : HoldsRoom held room) (e : start ≡ length table) (h : held ≤ from) (l : start ≤ from) where
    as_before : blockers_from room' (to - from) from ≡ blockers_from room (to - from) from
    unfolding with_table
    as_before =
        blockers_behind room room' (to - from) from (λ i g.
        ap (λ (r : BlockerRoom). blocker_at r i) new
        ∙ same_blocker holds (λ field before. placed held (column field table) before) i (λ field before k.
        placed_further held (column field table) before i (omega arith) (omega (arith, column_length field table))))

    pub close_behind_count : end ≡ length (table ++ staying Y (blockers_from room (to - from) from))
    close_behind_count =
        omega (
          arith,
          closed.count,
          ap (λ (others : List Blocker). length (staying Y others)) as_before,
          length-append table (staying Y (blockers_from room (to - from) from)),
        )

    pub close_behind : from ≤ to → room'' ≡ with_table to (table ++ staying Y (blockers_from room (to - from) from)) room
    unfolding with_table
    close_behind order =
        closed.tables
        ∙ ap₂ (λ (r : BlockerRoom) (among : List Blocker).
        each_table (λ field before. over (take start before ++ column field (staying Y among) ++ replicate (to - end) 0) before) r) new as_before
        ∙ tables_same _ (λ field before. placed to (column field (table ++ staying Y (blockers_from room (to - from) from))) before) room more
      where
        more : (field : Blocker → ℕ) (before : List ℕ)
            → over (take start (placed held (column field table) before) ++ column field (staying Y (blockers_from room (to - from) from)) ++ replicate (to - end) 0)
            (placed held (column field table) before)
            ≡ placed to (column field (table ++ staying Y (blockers_from room (to - from) from))) before
        more field before =
            let others : List Blocker = staying Y (blockers_from room (to - from) from) in
            placed_more held to start end (column field table) (column field others) before (e ∙ sym (column_length field table))
            (omega (arith, close_behind_count, column_length field others, length-append table others)) (omega arith) (omega (arith, closed.few))
            ∙ ap (λ (all : List ℕ). placed to all before) (sym (column_append field table others))
