-- The backward sets of a set, by symbol, and a state that is tried for it. Assumes nothing: these are definitions.
use Rattle.std.specs.Prelude.{ℕ, ◌≤◌, ◌<◌, ◌≡◌, List, T, length, get_or}
use Rattle.masks.specs.Sets.{Member, subset}
use Rattle.automata.specs.Image.{states_of, symbols_of, row_count_of, rows_of}
use Rattle.automata.specs.Automaton.{backward}
use Rattle.firing.specs.declared.linking.RowChains.{RowChains}
use Rattle.firing.specs.Linked.{Linked}

-- the table has the backward set of Y by each symbol
pub record SetsOf (image : List ℕ) (Y : ℕ) (sets : List ℕ) : Type 0 where
  pub room : symbols_of image ≤ length sets
  pub are : (s : ℕ) → s < symbols_of image → get_or sets s 0 ≡ backward (rows_of image s) Y

-- Y has grown from X by states below q
pub record Below (X q Y : ℕ) : Type 0 where
  pub inside : T (subset X Y)
  pub above : (p : ℕ) → q ≤ p → Member p Y → Member p X

-- State q is tried for Y, which lacks it and has grown from a set X by states below q. The rows are chained by what X lacks.
pub record Trying (image : List ℕ) (q Y : ℕ) (lasts links symbols : List ℕ) : Type 0 where
  pub X : ℕ
  pub linked : Linked image X (row_count_of image) lasts links symbols
  pub below : Below X q Y
  pub known : q < states_of image
  pub new : Member q X → ⊥

-- the same with the tables of a `RowChains`
abbrev pub TryingBy : {N : ℕ} → List ℕ → ℕ → ℕ → RowChains N → Type 0
TryingBy image q Y chains = Trying image q Y chains.lasts chains.links chains.symbols
