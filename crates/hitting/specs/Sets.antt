-- A table of sets of which the first places are in use, and the counts of all states at once. Assumes nothing: these are definitions.
use Rattle.std.specs.Prelude.{ℕ, ◌≤◌, ◌<◌, ◌≡◌, List, [], ◌∷◌, eqb, length, take}
use Rattle.std.specs.Int.Bits.{bit_and, bit_xor}
use Rattle.lists.specs.Tests.{choose}
use Rattle.automata.specs.Image.{Row}
use Rattle.machine.specs.System.{System}
use Rattle.machine.specs.Machine.{Blocker}
use Rattle.machine.specs.Hitting.{RowSource, cover, cases_outside, with_cases, best}
use Rattle.hitting.specs.Slots.{Slotted}
use Rattle.hitting.specs.declared.gathering.Gathering.{Gathering}

-- the first `count` places of the table hold the sets
pub record Gathered (sets : List ℕ) (count : ℕ) (table : List ℕ) : Type 0 where
  pub stands : take count table ≡ sets
  pub fits : count ≤ length table

-- the sets so far
abbrev pub held : {SETS SLOTS : ℕ} → Gathering SETS SLOTS → List ℕ
held gathering = take gathering.count gathering.sets

-- the table holds these sets, and they are chained by their slots, with a link for each place; places are told in 16 bits
pub record Filled {SETS SLOTS : ℕ} (sets : List ℕ) (gathering : Gathering SETS SLOTS) : Type 0 where
  pub gathered : Gathered sets gathering.count gathering.sets
  pub slotted : Slotted sets gathering.slots gathering.links
  pub places : length gathering.sets ≡ SETS
  pub links : length gathering.links ≡ SETS
  pub narrow : SETS < 65536

-- the table holds the sets so far, and has room for these
pub record HasRoom {SETS SLOTS : ℕ} (gathering : Gathering SETS SLOTS) (sets : List ℕ) : Type 0 where
  pub used : Filled (held gathering) gathering
  pub room : length sets ≤ SETS

-- the sets, with what is left of the cases of these rows whose state is outside b
abbrev pub with_row_cases : ℕ → ℕ → List ℕ → List Row → List ℕ
with_row_cases X b sets rows = with_cases X sets (cases_outside b rows)

-- the same of the symbol's rows, with its own b
abbrev pub with_symbol : System → RowSource → List Blocker → ℕ → ℕ → List ℕ → ℕ → List ℕ
with_symbol S rows table below X sets s = with_row_cases X (cover S.states S.initial table below X (S.backward s X)) sets (rows s)

-- Counts as planes: bit q of plane j is bit j of the count of state q. One more for each state of a set is an addition with a carry from plane to plane.
unfoldable pub with_carry : ℕ → List ℕ → List ℕ
with_carry carry [] = []
with_carry carry (plane ∷ planes) = bit_xor plane carry ∷ with_carry (bit_and plane carry) planes

-- the planes, with all sets counted
unfoldable pub count_all : List ℕ → List ℕ → List ℕ
count_all planes [] = planes
count_all planes (set ∷ sets) = count_all (with_carry set planes) sets

-- those of the states that are in the plane, if one is
unfoldable pub narrowed : ℕ → ℕ → ℕ
narrowed states plane = choose (eqb (bit_and states plane) 0) states (bit_and states plane)

-- those of the states whose count is the highest, from the last plane to the first
unfoldable pub highest : ℕ → List ℕ → ℕ
highest states [] = states
highest states (plane ∷ planes) = narrowed (highest states planes) plane

-- the state that is picked from the sets, and that it fits a mask
pub record Best (n : ℕ) (sets : List ℕ) (state : ℕ) : Type 0 where
  pub is_best : state ≡ best n sets
  pub fits : state < 64
