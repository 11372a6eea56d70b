-- One change of the blocker room after another is a change of what stood there first. Assumes nothing.
use Prim.Native.Nat.{ℕ, max}
use mathlib.Core.Path.{◌≡◌, sym, ap, subst, ◌∙◌}
use mathlib.Core.List.{List}
use native.Mathlib.Omega.{arith}
use lib.ListN.{length, take}
use Rattle.machine.specs.Machine.{Blocker}
use Rattle.machine.specs.Lent.{BlockerRoom, room_of, column, placed, with_table}
use Rattle.machine.proofs.LentTables.{blockers_length, column_length, placed_placed, tables_same}
use Rattle.blockers.specs.Room.{HoldsRoom, table_of}
use Rattle.blockers.proofs.Closing.{AsLong, long_itself, long_further, long_holds}
use Rattle.blockers.proofs.Placing.{holds_fewer, own_room, placed_long, placed_table}
use Rattle.blockers.proofs.Parts.{part_levels}
use Rattle.rising.specs.Risen.{Becomes}

-- The blockers in use stand in their own place.
becomes_own : {held : ℕ} {room : BlockerRoom} → HoldsRoom held room → Becomes held (table_of held room) room held room
becomes_own {held} {room} holds = record {
  count = sym (blockers_length room held 0);
  tables = sym (own_room holds);
  few = omega arith;
}

module _ {held : ℕ} {table : List Blocker} {room : BlockerRoom} {held' : ℕ} {room' : BlockerRoom} (becomes : Becomes held table room held' room') where
  -- the blockers in use are the new ones
  pub becomes_table : table_of held' room' ≡ table
  becomes_table = ap (λ (count : ℕ). table_of count room') becomes.count ∙ placed_table held room table becomes.tables

  -- they still fit, and the tables are as long as before
  becomes_long : HoldsRoom held room → AsLong room room'
  becomes_long holds = placed_long held room table becomes.tables holds (holds_fewer (omega (arith, becomes.count, becomes.few)) holds)

  pub becomes_holds : HoldsRoom held room → HoldsRoom held' room'
  becomes_holds holds = holds_fewer becomes.few (long_holds (becomes_long holds) holds)

  -- one change after another
  pub becomes_further : {table' : List Blocker} {held'' : ℕ} {room'' : BlockerRoom} → Becomes held' table' room' held'' room''
      → Becomes held table' room held'' room''
  unfolding with_table
  becomes_further {table'} {held''} {room''} further = record {
    count = further.count;
    tables = further.tables
        ∙ ap (λ (r : BlockerRoom). with_table held' table' r) becomes.tables
        ∙ tables_same _ (λ field before. placed held (column field table') before) room joined;
    few = omega (arith, further.few, becomes.few);
  }
    where
      joined : (field : Blocker → ℕ) (before : List ℕ)
          → placed held' (column field table') (placed held (column field table) before) ≡ placed held (column field table') before
      joined field before =
          let most : max held held' ≡ held = omega (arith, becomes.few) in
          placed_placed held held' (column field table) (column field table') before (omega (arith, becomes.count, column_length field table))
          ∙ ap (λ (n : ℕ). placed n (column field table') before) most

  pub becomes_same : {table' : List Blocker} → table ≡ table' → Becomes held table' room held' room'
  becomes_same e = subst (λ (t : List Blocker). Becomes held t room held' room') e becomes

-- what a caller knows of the part of the levels in use
pub becomes_part : {held : ℕ} {table : List Blocker} {room : BlockerRoom} {held' : ℕ} {masks levels entered : List ℕ}
    → Becomes held table room held' (room_of masks levels entered) → HoldsRoom held room → held' ≡ length (take held' levels)
becomes_part becomes holds = part_levels (becomes_holds becomes holds).read

-- A room that was changed since it held `held` blockers: `count` are in use, in place of the first ones, and its tables are as long as then.
pub record Changed (first : BlockerRoom) (held count : ℕ) (room : BlockerRoom) : Type 0 where
  pub holds : HoldsRoom count room
  pub long : AsLong first room
  pub becomes : Becomes held (table_of count room) first count room

pub unchanged : {held : ℕ} {room : BlockerRoom} → HoldsRoom held room → Changed room held held room
unchanged holds = record { holds = holds; long = long_itself _; becomes = becomes_own holds }

pub changed_further : {first : BlockerRoom} {held count : ℕ} {room : BlockerRoom} {table : List Blocker} {count' : ℕ} {room' : BlockerRoom}
    → Changed first held count room → Becomes count table room count' room' → Changed first held count' room'
changed_further changed change = record {
  holds = becomes_holds change changed.holds;
  long = long_further changed.long (becomes_long change changed.holds);
  becomes = becomes_further changed.becomes (becomes_same change (sym (becomes_table change)));
}
