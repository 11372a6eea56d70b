-- The three changes of the blocker room: a blocker enters, one rises, only those above a level stay. Assumes nothing.
use Rattle.std.specs.Prelude.{Option, Some, None}
use Prim.Native.Nat.{ℕ, zero, suc, ◌+◌, ◌-◌, ◌≤◌, ◌<◌}
use mathlib.Core.Path.{◌≡◌, refl, sym, ap, ap₂, subst, ◌∙◌}
use mathlib.Core.Bool.{Bool, true, false}
use mathlib.Core.List.{List, [], ◌∷◌, ◌++◌}
use native.Mathlib.Numerals.{add-one}
use native.Mathlib.Omega.{arith}
use native.Mathlib.Decide.{dec_le}
use borrow.Author.Tests.{leb-true, le-leb, lt-leb, lt-ltb, le-ltb}
use mir.Syntax.{w64}
use mir.Val.{Fits}
use lib.Dec.{leb, ltb}
use lib.ListN.{length, take, get_or, length-append}
use lib.Seq.{append_snoc, get_or-take}
use Rattle.lists.specs.Tests.{◌and◌, neg, choose}
use Rattle.lists.specs.Lists.{keep}
use Rattle.lists.proofs.Tests.{is_true, choose_true, choose_false}
use Rattle.masks.specs.Sets.{subset, full}
use Rattle.masks.proofs.Laws.{below_within, within_full}
use Rattle.machine.specs.Machine.{Blocker, leaves, staying, risen, frame}
use Rattle.machine.specs.Lent.{BlockerRoom, EvenRoom, blocker_of, blocker_at, blockers_from, with_table}
use Rattle.blockers.specs.Room.{
  HoldsRoom,
  table_of,
  put_at,
  ClosedUp,
  entering,
  entered_answer,
  entered_table,
  Enters,
  risen_among,
  risen_table,
  RisesAt,
  Frames,
}
use Rattle.machine.proofs.LentTables.{blockers_length}
use Rattle.blockers.proofs.Closing.{AsLong, long_further, long_holds, put_long}
use Rattle.blockers.proofs.Placing.{
  stay_whole,
  even_holds,
  holds_fewer,
  placed_first,
  placed_rest,
  placed_long,
  placed_put,
  own_room,
  close_count,
  close_placed,
  close_behind,
  close_behind_count,
}

-- who stays for Y does not depend on when Y entered
close_for : (Y : Blocker) {start from to end : ℕ} {room room' : BlockerRoom} → ClosedUp (blocker_of Y.mask Y.level) start from to end room room'
    → ClosedUp Y start from to end room room'
unfolding staying leaves
close_for Y closed = record { count = closed.count; few = closed.few; tables = closed.tables }

module _ {Y : Blocker} {held end : ℕ} {room room' : BlockerRoom} (closed : ClosedUp Y 0 0 held end room room') where
  -- closing up leaves the tables as long as before
  close_long : HoldsRoom held room → AsLong room room'
  close_long holds =
      placed_long held room (staying Y (table_of held room)) (close_placed closed) holds (holds_fewer (omega (arith, close_count closed, closed.few)) holds)

  -- with Y there is one blocker more than stayed
  entering_length : length (entering Y (table_of held room)) ≡ end + 1
  unfolding entering
  entering_length = omega (arith, length-append (staying Y (table_of held room)) (Y ∷ []), close_count closed)

  -- and a place for it, if the masks have one
  pub enter_room : HoldsRoom held room × EvenRoom room → end < length room'.masks → HoldsRoom (end + 1) room'
  enter_room asked l =
      let long = close_long asked.0 in
      long_holds long (even_holds asked.1 (omega (arith, long.masks)))

-- Y enters: no place is left for it, or it stands behind those that stayed
module _ {Y : Blocker} {held end : ℕ} {room room' : BlockerRoom} (closed : ClosedUp (blocker_of Y.mask Y.level) 0 0 held end room room')
    (asked : HoldsRoom held room × EvenRoom room) where
  pub enter_full : length room'.masks ≤ end → Enters held Y room None room'
  unfolding entered_answer entered_table
  enter_full l =
      let shut = close_for Y closed in
      let long = close_long closed asked.0 in
      let table : List Blocker = table_of held room in
      let lacking : length room.masks < length (entering Y table) = omega (arith, long.masks, entering_length shut) in
      let all : staying Y table ≡ table =
      stay_whole Y table (omega (arith, long.masks, close_count shut, asked.0.read.in_masks, blockers_length room held 0)) in
      let lacks : leb (length (entering Y table)) (length room.masks) ≡ false = lt-leb (length (entering Y table)) (length room.masks) lacking in
      record {
        answers = sym (choose_false (Some (length (entering Y table))) None lacks);
        tables = subst (λ (new : List Blocker). room' ≡ with_table held new room) (all ∙ sym (choose_false (entering Y table) table lacks)) (close_placed shut);
      }

  pub enter_held : {room'' : BlockerRoom} → room'' ≡ put_at Y end room' → end < length room'.masks → Enters held Y room (Some (end + 1)) room''
  unfolding entered_answer entered_table entering
  enter_held {room''} put l =
      let shut = close_for Y closed in
      let long = close_long closed asked.0 in
      let table : List Blocker = table_of held room in
      let new : List Blocker = staying Y table ++ Y ∷ [] in
      let place : HoldsRoom (suc end) room = even_holds asked.1 (omega (arith, long.masks)) in
      let fits : leb (length new) (length room.masks) ≡ true =
      le-leb (length new) (length room.masks) (omega (arith, long.masks, entering_length shut)) in
      record {
        answers = ap Some (sym (entering_length shut)) ∙ sym (choose_true (Some (length new)) None fits);
        tables = subst (λ (t : List Blocker). room'' ≡ with_table held t room) (sym (choose_true new table fits))
            (placed_put held _ (close_placed shut) Y end put (close_count shut) asked.0 place);
      }

-- What a caller learns from the answer: whether there was room, the new count, and what stands in the tables.
choice_held : (b : Bool) {n count : ℕ} → choose b (Some n) None ≡ Some count → (b ≡ true) × (count ≡ n)
unfolding choose
choice_held true e = (refl, cc)
choice_held false e = let z : ◌≡◌ {A = ℕ} 0 1 = cc in absurd (omega arith)

choice_full : (b : Bool) (n : ℕ) → choose b (Some n) None ≡ None → b ≡ false
unfolding choose
choice_full true n e = let z : ◌≡◌ {A = ℕ} 0 1 = cc in absurd (omega arith)
choice_full false n e = refl

module _ {held : ℕ} {Y : Blocker} {room : BlockerRoom} {answer : Option ℕ} {room' : BlockerRoom}
    (enters : Enters held Y room answer room') where
  module _ {count : ℕ} (e : answer ≡ Some count) where
    held_choice : (leb (length (entering Y (table_of held room))) (length room.masks) ≡ true)
        × (count ≡ length (entering Y (table_of held room)))
    unfolding entered_answer
    held_choice = choice_held (leb (length (entering Y (table_of held room))) (length room.masks)) (sym enters.answers ∙ e)

    pub held_room : leb (length (entering Y (table_of held room))) (length room.masks) ≡ true
    held_room = held_choice.0

    pub held_count : count ≡ length (entering Y (table_of held room))
    held_count = held_choice.1

    pub held_fits : count ≤ length room.masks
    held_fits = omega (arith, held_count, leb-true (length (entering Y (table_of held room))) (length room.masks) held_room)

    pub held_placed : room' ≡ with_table held (entering Y (table_of held room)) room
    unfolding entered_table
    held_placed =
        subst (λ (table : List Blocker). room' ≡ with_table held table room)
        (choose_true (entering Y (table_of held room)) (table_of held room) held_room) enters.tables

  module _ (e : answer ≡ None) where
    pub full_room : leb (length (entering Y (table_of held room))) (length room.masks) ≡ false
    unfolding entered_answer
    full_room =
        choice_full (leb (length (entering Y (table_of held room))) (length room.masks)) (length (entering Y (table_of held room)))
        (sym enters.answers ∙ e)

    full_placed : room' ≡ with_table held (table_of held room) room
    unfolding entered_table
    full_placed =
        subst (λ (table : List Blocker). room' ≡ with_table held table room)
        (choose_false (entering Y (table_of held room)) (table_of held room) full_room) enters.tables

    pub full_room_stays : HoldsRoom held room → room' ≡ room
    full_room_stays holds = full_placed ∙ own_room holds

-- the blocker at a place rises to a level
module _ {held place level stands : ℕ} {room room' : BlockerRoom}
    (asked : HoldsRoom held room × (place < held) × (get_or room.levels place 0 < 4294967295)) (above : level ≡ get_or room.levels place 0 + 1)
    (passed : ClosedUp (blocker_of (get_or room.masks place 0) level) 0 0 place stands room room') where
  abbrev R : Blocker
  R = record { mask = get_or room.masks place 0; level = level; entered = get_or room.entered place 0 }

  same_risen : R ≡ risen (blocker_at room place)
  unfolding risen
  same_risen =
      ap (λ (n : ℕ). record { mask = get_or room.masks place 0; level = n; entered = get_or room.entered place 0 })
      (above ∙ add-one (get_or room.levels place 0))

  first_closed : ClosedUp R 0 0 place stands room room'
  first_closed = close_for R passed

  before : HoldsRoom place room
  before = holds_fewer (omega (arith, asked.1)) asked.0

  -- it has a place of its own then, and the others behind it theirs
  pub rise_room : HoldsRoom (stands + 1) room'
  rise_room = holds_fewer (omega (arith, passed.few, asked.1)) (long_holds (close_long passed before) asked.0)

  pub rise_behind : (Y : Blocker) {room'' : BlockerRoom} → room'' ≡ put_at Y stands room' → HoldsRoom held room''
  rise_behind Y put = long_holds (long_further (close_long passed before) (put_long _ _ put)) asked.0

  pub rises_at : {end : ℕ} {room'' room''' : BlockerRoom} → room'' ≡ put_at R stands room'
      → ClosedUp (blocker_of (get_or room.masks place 0) level) (stands + 1) (place + 1) held end room'' room'''
      → RisesAt held place room end stands room'''
  unfolding risen_among
  rises_at {end} {room''} {room'''} put ahead =
      let first : List Blocker = staying R (table_of place room) ++ R ∷ [] in
      let others : List Blocker = blockers_from room (held - (place + 1)) (place + 1) in
      let short : stands ≤ place = omega (arith, passed.few) in
      let count : stands + 1 ≡ length first =
      omega (arith, close_count first_closed, length-append (staying R (table_of place room)) (R ∷ [])) in
      let fits : HoldsRoom (suc stands) room = holds_fewer (omega (arith, asked.1)) asked.0 in
      let new : room'' ≡ with_table place first room = placed_put place _ (close_placed first_closed) R stands put (close_count first_closed) before fits in
      let closed : ClosedUp R (stands + 1) (place + 1) held end room'' room''' = close_for R ahead in
      let whole : first ++ staying R others ≡ risen_table held room place =
      append_snoc (staying R (table_of place room)) R (staying R others)
      ∙ ap (λ (r : Blocker). staying r (table_of place room) ++ r ∷ staying r others) same_risen in
      record {
        count = close_behind_count place first new closed before count (omega arith) (omega arith) ∙ ap length whole;
        stands = close_count first_closed ∙ ap (λ (r : Blocker). length (staying r (table_of place room))) same_risen;
        tables = subst (λ (table : List Blocker). room''' ≡ with_table held table room) whole
            (close_behind place first new closed before count (omega arith) (omega arith) (omega (arith, asked.1)));
        few = omega (arith, ahead.few, asked.1);
        below = omega (arith, ahead.count);
        left = omega (arith, ahead.few, asked.1);
      }

-- What a caller reads after a rise, as the walk along the table goes on: the blockers up to the risen one, and those behind it.
module _ {held place : ℕ} {room : BlockerRoom} {held' place' : ℕ} {room' : BlockerRoom} (rises : RisesAt held place room held' place' room') where
  pub risen_passed : blockers_from room' (place' + 1) 0
      ≡ staying (risen (blocker_at room place)) (blockers_from room place 0) ++ risen (blocker_at room place) ∷ []
  unfolding risen_among
  risen_passed =
      let R : Blocker = risen (blocker_at room place) in
      let first : List Blocker = staying R (blockers_from room place 0) in
      let others : List Blocker = staying R (blockers_from room (held - (place + 1)) (place + 1)) in
      let count : place' + 1 ≡ length (first ++ R ∷ []) = omega (arith, rises.stands, length-append first (R ∷ [])) in
      ap (λ (k : ℕ). blockers_from room' k 0) count
      ∙ placed_first held room (first ++ R ∷ []) others
      (subst (λ (table : List Blocker). room' ≡ with_table held table room) (sym (append_snoc first R others)) rises.tables)

  pub risen_ahead : blockers_from room' (held' - (place' + 1)) (place' + 1)
      ≡ staying (risen (blocker_at room place)) (blockers_from room (held - (place + 1)) (place + 1))
  unfolding risen_among
  risen_ahead =
      let R : Blocker = risen (blocker_at room place) in
      let first : List Blocker = staying R (blockers_from room place 0) in
      let others : List Blocker = staying R (blockers_from room (held - (place + 1)) (place + 1)) in
      let start : place' + 1 ≡ length (first ++ R ∷ []) = omega (arith, rises.stands, length-append first (R ∷ [])) in
      let count : held' - (place' + 1) ≡ length others = omega (arith, rises.count, rises.stands, length-append first (R ∷ others)) in
      ap₂ (λ (k at : ℕ). blockers_from room' k at) count start
      ∙ placed_rest held room (first ++ R ∷ []) others
      (subst (λ (table : List Blocker). room' ≡ with_table held table room) (sym (append_snoc first R others)) rises.tables)

-- only those above a level stay
module _ (j held : ℕ) (room : BlockerRoom) (fits : (i : ℕ) → Fits w64 (get_or (take held room.masks) i 0)) where
  in_full : (i : ℕ) → i < held → subset (get_or room.masks i 0) 18446744073709551615 ≡ true
  unfolding full
  in_full i l =
      let below : get_or room.masks i 0 < 18446744073709551616 = omega (arith, fits i, get_or-take held room.masks i 0 l) in
      is_true _ (within_full 64 (get_or room.masks i 0) (below_within 64 (get_or room.masks i 0) below))

  above : (i : ℕ) → i < held → neg (leaves (blocker_of 18446744073709551615 j) (blocker_at room i)) ≡ ltb j (get_or room.levels i 0)
  unfolding leaves ◌and◌ neg
  above i inside = at (dec_le (get_or room.levels i 0) j)
    where
      at : Dec (get_or room.levels i 0 ≤ j) → neg (leaves (blocker_of 18446744073709551615 j) (blocker_at room i)) ≡ ltb j (get_or room.levels i 0)
      at (yes l) = rw (le-leb (get_or room.levels i 0) j l, in_full i inside, le-ltb j (get_or room.levels i 0) l)
      at (no l) =
          let h : j < get_or room.levels i 0 = omega arith in
          rw (lt-leb (get_or room.levels i 0) j h, lt-ltb j (get_or room.levels i 0) h)

  stay_above : (count at : ℕ) → at + count ≤ held
      → staying (blocker_of 18446744073709551615 j) (blockers_from room count at) ≡ frame j (blockers_from room count at)
  unfolding staying frame keep blockers_from
  stay_above zero at l = refl
  stay_above (suc count) at l =
      ap₂ (λ (b : Bool) (rest : List Blocker). choose b (blocker_at room at ∷ rest) rest) (above at (omega arith)) (stay_above count (suc at) (omega arith))

pub framed : {j held end : ℕ} {room room' : BlockerRoom} {masks : List ℕ} → masks ≡ take held room.masks
    → ((i : ℕ) → Fits w64 (get_or masks i 0)) → ClosedUp (blocker_of 18446744073709551615 j) 0 0 held end room room'
    → Frames held j room end room'
framed {j} {held} {end} {room} {room'} part fits closed =
    let each : (i : ℕ) → Fits w64 (get_or (take held room.masks) i 0) =
    λ i. subst (λ (table : List ℕ). Fits w64 (get_or table i 0)) part (fits i) in
    let same : staying (blocker_of 18446744073709551615 j) (table_of held room) ≡ frame j (table_of held room) =
    stay_above j held room each held 0 (omega arith) in
    record {
      count = close_count closed ∙ ap length same;
      tables = subst (λ (table : List Blocker). room' ≡ with_table held table room) same (close_placed closed);
      few = omega (arith, closed.few);
    }
