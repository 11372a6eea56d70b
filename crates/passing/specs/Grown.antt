-- A set that has grown, and the test of its backward sets. Assumes nothing: these are definitions.
use Rattle.std.specs.Prelude.{ℕ, Bool, List, T}
use Rattle.lists.specs.Lists.{each_from}
use Rattle.masks.specs.Sets.{subset, within}
use Rattle.automata.specs.Image.{states_of, symbols_of, initial_of, rows_of}
use Rattle.automata.specs.Automaton.{backward}
use Rattle.machine.specs.Machine.{Blocker, settled}

-- the test whether each backward set of Y is inside Y or blocked below
unfoldable pub all_settled : List ℕ → List Blocker → ℕ → ℕ → Bool
all_settled image table below Y = each_from (λ s. settled (initial_of image) table below Y (backward (rows_of image s) Y)) (symbols_of image) 0

-- Y contains X and has no bit at n or above
pub record Grown (image : List ℕ) (X Y : ℕ) : Type 0 where
  pub inside : T (subset X Y)
  pub fits : T (within (states_of image) Y)
