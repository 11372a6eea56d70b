-- Blockers that leave: the others close up, and the places that became free are cleared. What is shown of one table, whatever field it holds, is shown of
-- the room. Assumes nothing.
use Prim.Native.Nat.{ℕ, ◌+◌, ◌-◌, ◌≤◌, ◌<◌}
use mathlib.Core.Path.{◌≡◌, refl, sym, ap, subst, ◌∙◌}
use mathlib.Core.Bool.{Bool, true, false}
use mathlib.Core.List.{List, [], ◌∷◌, ◌++◌, append_assoc, append-nil}
use native.Mathlib.Omega.{arith}
use lib.ListN.{length, take, drop, get_or, set, replicate, length-append, length-set, length-replicate}
use borrow.Rule.Slice.PartMut.{put_mid, mid_len, Post-is}
use lib.Seq.{append_snoc, length-take-le, set-get_or}
use Rattle.lists.specs.Tests.{neg, choose}
use Rattle.lists.specs.Lists.{keep}
use Rattle.machine.specs.Machine.{Blocker, covers, leaves, staying}
use Rattle.machine.specs.Lent.{BlockerRoom, room_of, blocker_at, blockers_from, column, mask_of, level_of, entered_of, each_table}
use Rattle.machine.proofs.LentTables.{tables_alike, column_length, column_append}
use Rattle.blockers.specs.Room.{HoldsRoom, put_at, over, ClosedUp, cleared_between}
use Rattle.blockers.proofs.Over.{over_behind, over_store_last, over_over, over_nothing}
use Rattle.blockers.proofs.Walks.{next_blocker, no_blocker}

-- two changes that are the same of each table of so many places are the same of the room
pub tables_within : {n : ℕ} {room : BlockerRoom} → HoldsRoom n room → (f g : (Blocker → ℕ) → List ℕ → List ℕ)
    → ((field : Blocker → ℕ) (table : List ℕ) → n ≤ length table → f field table ≡ g field table) → each_table f room ≡ each_table g room
tables_within {n} {room} holds f g =
    tables_alike f g room (λ table. n ≤ length table) holds.read.in_masks holds.read.in_levels holds.in_entered

-- a change that leaves a place of each table as it was leaves the blocker there
pub same_blocker : {n : ℕ} {room : BlockerRoom} → HoldsRoom n room → (f : (Blocker → ℕ) → List ℕ → List ℕ) (i : ℕ)
    → ((field : Blocker → ℕ) (table : List ℕ) → n ≤ length table → get_or (f field table) i 0 ≡ get_or table i 0)
    → blocker_at (each_table f room) i ≡ blocker_at room i
same_blocker {room = room} holds f i same =
    rw (
      same mask_of room.masks holds.read.in_masks,
      same level_of room.levels holds.read.in_levels,
      same entered_of room.entered holds.in_entered,
    )

-- a room's tables are as long as another's
pub record AsLong (room room' : BlockerRoom) : Type 0 where
  pub masks : length room'.masks ≡ length room.masks
  pub levels : length room'.levels ≡ length room.levels
  pub entered : length room'.entered ≡ length room.entered

pub long_itself : (room : BlockerRoom) → AsLong room room
long_itself room = record { masks = refl; levels = refl; entered = refl }

pub long_further : {first room room' : BlockerRoom} → AsLong first room → AsLong room room' → AsLong first room'
long_further long further = record {
  masks = further.masks ∙ long.masks;
  levels = further.levels ∙ long.levels;
  entered = further.entered ∙ long.entered;
}

pub long_holds : {n : ℕ} {room room' : BlockerRoom} → AsLong room room' → HoldsRoom n room → HoldsRoom n room'
long_holds long holds = record {
  read = record { in_masks = omega (arith, long.masks, holds.read.in_masks); in_levels = omega (arith, long.levels, holds.read.in_levels) };
  in_entered = omega (arith, long.entered, holds.in_entered);
}

-- a store leaves the tables as long as they were
pub put_long : (place : ℕ) (Y : Blocker) {room room' : BlockerRoom} → room' ≡ put_at Y place room → AsLong room room'
unfolding put_at
put_long place Y {room} put =
    subst (AsLong room) (sym put)
    (record {
      masks = length-set room.masks place Y.mask;
      levels = length-set room.levels place Y.level;
      entered = length-set room.entered place Y.entered;
    })

-- a blocker leaves for Y where Y covers it at its own level
leaves_covered : (Y blocker : Blocker) → covers blocker.level blocker.mask Y ≡ leaves Y blocker
unfolding covers leaves
leaves_covered Y blocker = refl

-- who stays of some blockers, by the first of them
module _ (Y first : Blocker) (rest : List Blocker) where
  first_leaves : leaves Y first ≡ true → staying Y (first ∷ rest) ≡ staying Y rest
  unfolding staying keep choose neg
  first_leaves e = rw e

  first_stays : leaves Y first ≡ false → staying Y (first ∷ rest) ≡ first ∷ staying Y rest
  unfolding staying keep choose neg
  first_stays e = rw e

-- One table while blockers close up from `start` on, of which those in `stayed` are done: they are written over it.
module _ (field : Blocker → ℕ) (start : ℕ) (stayed : List Blocker) (before : List ℕ) (fits : start ≤ length before) where
  front_length : length (take start before ++ column field stayed) ≡ start + length stayed
  front_length =
      omega (arith, length-append (take start before) (column field stayed), length-take-le start before fits, column_length field stayed)

  closing_ahead : (i : ℕ) → start + length stayed ≤ i → get_or (over (take start before ++ column field stayed) before) i 0 ≡ get_or before i 0
  closing_ahead i l = over_behind (take start before ++ column field stayed) before i (omega (arith, front_length))

  closing_stores : (blocker : Blocker) (kept : ℕ) → kept ≡ start + length stayed → kept < length before
      → set (over (take start before ++ column field stayed) before) kept (field blocker)
      ≡ over (take start before ++ column field (stayed ++ blocker ∷ [])) before
  unfolding column
  closing_stores blocker kept e l =
      over_store_last (take start before) (column field stayed) before kept (field blocker) (e ∙ sym front_length) l
      ∙ ap (λ (new : List ℕ). over (take start before ++ new) before) (sym (column_append field stayed (blocker ∷ [])))

  -- the places up to `to` are cleared behind them
  closing_cleared : (kept to : ℕ) → kept ≡ start + length stayed
      → over (take kept (over (take start before ++ column field stayed) before) ++ replicate (to - kept) 0)
      (over (take start before ++ column field stayed) before)
      ≡ over (take start before ++ column field stayed ++ replicate (to - kept) 0) before
  closing_cleared kept to e =
      over_over (take start before ++ column field stayed) (replicate (to - kept) 0) before kept (e ∙ sym front_length)

-- The walk that closes blockers up, before the one at i: those in `stayed` are done, `kept` is the place for the next, and they with what stays of
-- the blockers ahead are all that stay.
pub record ClosingUp (Y : Blocker) (start from to : ℕ) (room : BlockerRoom) (kept i : ℕ) (room' : BlockerRoom) : Type 0 where
  pub begins : from ≤ i
  pub bound : i ≤ to
  pub behind : start ≤ from
  pub few : kept ≤ start + (i - from)
  pub first : HoldsRoom to room
  pub long : AsLong room room'
  pub stayed : List Blocker
  pub count : kept ≡ start + length stayed
  pub ahead : stayed ++ staying Y (blockers_from room (to - i) i) ≡ staying Y (blockers_from room (to - from) from)
  pub closing : room' ≡ each_table (λ field before. over (take start before ++ column field stayed) before) room

pub close_starts : {Y : Blocker} {start from to : ℕ} {room : BlockerRoom} → start ≤ from → from ≤ to → HoldsRoom to room
    → ClosingUp Y start from to room start from room
unfolding column
close_starts {Y} {start} {from} {to} {room} a b holds = record {
  begins = omega arith;
  bound = b;
  behind = a;
  few = omega arith;
  first = holds;
  long = long_itself room;
  stayed = [];
  count = omega arith;
  ahead = refl;
  closing = tables_within holds (λ field before. before) (λ field before. over (take start before ++ []) before)
      (λ field before l. over_nothing start before);
}

module _ {Y : Blocker} {start from to : ℕ} {room : BlockerRoom} {kept i : ℕ} {room' : BlockerRoom}
    (so_far : ClosingUp Y start from to room kept i room') where
  -- what the walk reads is what stood there before it
  unchanged : blocker_at room' i ≡ blocker_at room i
  unchanged =
      ap (λ (r : BlockerRoom). blocker_at r i) so_far.closing
      ∙ same_blocker so_far.first (λ field before. over (take start before ++ column field so_far.stayed) before) i
      (λ field before l. closing_ahead field start so_far.stayed before (omega (arith, so_far.begins, so_far.bound, so_far.behind)) i
      (omega (arith, so_far.count, so_far.few, so_far.begins, so_far.behind)))

  -- one blocker further, with those that stayed by then
  goes : {kept' : ℕ} {room'' : BlockerRoom} (stayed : List Blocker) → i < to → kept' ≤ kept + 1 → kept' ≡ start + length stayed
      → stayed ++ staying Y (blockers_from room (to - (i + 1)) (i + 1)) ≡ so_far.stayed ++ staying Y (blockers_from room (to - i) i)
      → AsLong room room'' → room'' ≡ each_table (λ field before. over (take start before ++ column field stayed) before) room
      → ClosingUp Y start from to room kept' (i + 1) room''
  goes stayed l most count ahead long closing =
      record {
        begins = omega (arith, so_far.begins);
        bound = omega arith;
        behind = so_far.behind;
        few = omega (arith, so_far.few, so_far.begins);
        first = so_far.first;
        long = long;
        stayed = stayed;
        count = count;
        ahead = ahead ∙ so_far.ahead;
        closing = closing;
      }

  pub close_leaves : (b : Bool) → i < to → b ≡ covers (get_or room'.levels i 0) (get_or room'.masks i 0) Y → b ≡ true
      → ClosingUp Y start from to room kept (i + 1) room'
  close_leaves b l e t =
      let rest : List Blocker = blockers_from room (to - (i + 1)) (i + 1) in
      let left : leaves Y (blocker_at room i) ≡ true = sym (e ∙ leaves_covered Y (blocker_at room' i) ∙ ap (leaves Y) unchanged) ∙ t in
      let same : staying Y rest ≡ staying Y (blockers_from room (to - i) i) =
      sym (ap (staying Y) (next_blocker room to i l) ∙ first_leaves Y (blocker_at room i) rest left) in
      goes so_far.stayed l (omega arith) so_far.count (ap (λ (others : List Blocker). so_far.stayed ++ others) same)
      so_far.long so_far.closing

  -- One that stays goes to the next place.
  module _ (b : Bool) (l : i < to) (e : b ≡ covers (get_or room'.levels i 0) (get_or room'.masks i 0) Y) (t : b ≡ false) where
    pub close_stays : {room'' : BlockerRoom} → room'' ≡ put_at (blocker_at room' i) kept room' → ClosingUp Y start from to room (kept + 1) (i + 1) room''
    unfolding put_at
    close_stays {room''} put =
        let blocker : Blocker = blocker_at room' i in
        let rest : List Blocker = blockers_from room (to - (i + 1)) (i + 1) in
        let same : blocker ∷ staying Y rest ≡ staying Y (blockers_from room (to - i) i) =
        sym (ap (staying Y) (next_blocker room to i l ∙ ap (λ (first : Blocker). first ∷ rest) (sym unchanged))
        ∙ first_stays Y blocker rest (sym (e ∙ leaves_covered Y blocker) ∙ t)) in
        goes (so_far.stayed ++ blocker ∷ []) l (omega arith) (omega (arith, so_far.count, length-append so_far.stayed (blocker ∷ [])))
        (append_snoc so_far.stayed blocker (staying Y rest) ∙ ap (λ (others : List Blocker). so_far.stayed ++ others) same)
        (long_further so_far.long (put_long _ _ put))
        (put
        ∙ ap (λ (r : BlockerRoom). each_table (λ field before. set before kept (field blocker)) r) so_far.closing
        ∙ tables_within so_far.first
        (λ field before. set (over (take start before ++ column field so_far.stayed) before) kept (field blocker))
        (λ field before. over (take start before ++ column field (so_far.stayed ++ blocker ∷ [])) before)
        (λ field before h. closing_stores field start so_far.stayed before (omega (arith, so_far.begins, so_far.behind)) blocker kept so_far.count
        (omega (arith, so_far.few, so_far.begins, so_far.behind))))

    -- where none has left yet, it stands there already
    pub close_stands : {room'' : BlockerRoom} → room'' ≡ room' → i ≤ kept → ClosingUp Y start from to room (kept + 1) (i + 1) room''
    unfolding put_at
    close_stands same_room none = close_stays (same_room ∙ own)
      where
        same : kept ≡ i
        same = omega (arith, so_far.few, so_far.begins, so_far.behind)

        own : room' ≡ put_at (blocker_at room' i) kept room'
        own =
            let stands : (table : List ℕ) → set table kept (get_or table i 0) ≡ table =
            λ table. ap (λ (k : ℕ). set table k (get_or table i 0)) same ∙ set-get_or table i 0 in
            sym (rw (stands room'.masks, stands room'.levels, stands room'.entered))

  pub close_ends : {room'' : BlockerRoom} → room'' ≡ cleared_between kept to room' → to ≤ i → ClosedUp Y start from to kept room room''
  unfolding staying keep cleared_between
  close_ends cleared l =
      let all : so_far.stayed ≡ staying Y (blockers_from room (to - from) from) =
      sym (append-nil so_far.stayed)
      ∙ ap (λ (others : List Blocker). so_far.stayed ++ staying Y others) (sym (no_blocker room to i l))
      ∙ so_far.ahead in
      record {
        count = so_far.count ∙ ap (λ (table : List Blocker). start + length table) all;
        few = omega (arith, so_far.few, so_far.bound);
        tables = cleared
            ∙ ap (λ (r : BlockerRoom). each_table (λ field before. over (take kept before ++ replicate (to - kept) 0) before) r) so_far.closing
            ∙ tables_within so_far.first _ (λ field before. over (take start before ++ column field so_far.stayed ++ replicate (to - kept) 0) before)
            (λ field before h. closing_cleared field start so_far.stayed before (omega (arith, so_far.begins, so_far.bound, so_far.behind)) kept to
            so_far.count)
            ∙ ap (λ (table : List Blocker).
            each_table (λ field before. over (take start before ++ column field table ++ replicate (to - kept) 0) before) room) all;
      }

-- 0 in the places from `from` to `to` of one table
pub zeros_between : (table zeros : List ℕ) (from to : ℕ) → from ≤ to → to ≤ length table
    → zeros ≡ replicate (length (take (to - from) (drop from table))) 0
    → put_mid from (to - from) table zeros ≡ over (take from table ++ replicate (to - from) 0) table
unfolding over
zeros_between table zeros from to a l z =
    let front : length (take from table ++ replicate (to - from) 0) ≡ to =
    omega (
      arith,
      length-append (take from table) (replicate (to - from) 0),
      length-take-le from table (omega arith),
      length-replicate {A = ℕ} (to - from) 0,
    ) in
    rw (z, mid_len from to table l, front, Post-is from to table a)
    (sym (append_assoc (take from table) (replicate (to - from) 0) (drop to table)))

-- and of all three
pub clear_written : (masks levels entered masks' levels' entered' : List ℕ) (from to : ℕ)
    → masks' ≡ over (take from masks ++ replicate (to - from) 0) masks
    → levels' ≡ over (take from levels ++ replicate (to - from) 0) levels
    → entered' ≡ over (take from entered ++ replicate (to - from) 0) entered
    → room_of masks' levels' entered' ≡ cleared_between from to (room_of masks levels entered)
unfolding cleared_between
clear_written masks levels entered masks' levels' entered' from to m l e = rw (m, l, e)

-- no place is cleared where none is between
pub clear_none : (masks levels entered : List ℕ) (from to : ℕ) → to < from
    → room_of masks levels entered ≡ cleared_between from to (room_of masks levels entered)
clear_none masks levels entered from to l =
    clear_written masks levels entered masks levels entered from to (same masks) (same levels) (same entered)
  where
    same : (table : List ℕ) → table ≡ over (take from table ++ replicate (to - from) 0) table
    same table =
        let none : to - from ≡ 0 = omega arith in
        over_nothing from table ∙ ap (λ (k : ℕ). over (take from table ++ replicate k 0) table) (sym none)
