-- Sets in chains by their slots: each set has a slot, which others may share. Which slot a set has matters to no statement. Assumes nothing: these are
-- definitions.
use Rattle.std.specs.Prelude.{ℕ, ◌+◌, ◌-◌, ◌*◌, ◌/◌, ◌^◌, ◌≤◌, List, length, get_or}
use Rattle.std.specs.Int.Bits.{bit_and}
use Rattle.chains.specs.Chained.{Chained}

-- the number from which a set's slot is taken: each half of its 64 bits times a number, so that sets which differ little have slots far apart
unfoldable pub mixed : ℕ → ℕ
mixed one = (bit_and one 4294967295 * 1540483477 + one / 2 ^ 32 * 739982445) / 2 ^ 22

-- of so many slots
unfoldable pub slot_of : ℕ → ℕ → ℕ
slot_of slots one = bit_and (mixed one) (slots - 1)

-- the slot of the set at a place
abbrev pub slot_at : ℕ → List ℕ → ℕ → ℕ
slot_at slots sets p = slot_of slots (get_or sets p 0)

-- the slots and the links are those of the sets: the sets are chained by their slots
pub record Slotted (sets slots links : List ℕ) : Type 0 where
  pub some_slot : 1 ≤ length slots
  pub linked : length sets ≤ length links
  pub chained : Chained (slot_at (length slots) sets) (length sets) slots links
