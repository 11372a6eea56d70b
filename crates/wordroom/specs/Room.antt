-- The word room as two lent tables, pending cases and symbols: what a function needs of them. Assumes nothing: these are definitions.
use Rattle.std.specs.Prelude.{ℕ, ◌≤◌, length}
use Rattle.machine.specs.Lent.{WordRoom}

-- the first `count` places of both tables are there
pub record Holds (count : ℕ) (room : WordRoom) : Type 0 where
  pub in_cases : count ≤ length room.cases
  pub in_symbols : count ≤ length room.symbols
