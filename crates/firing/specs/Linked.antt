-- The rows of an image by their numbers, chained by the state at which they can fire. Assumes nothing: these are definitions.
use Rattle.std.specs.Prelude.{ℕ, suc, ◌+◌, ◌-◌, ◌*◌, ◌/◌, ◌≤◌, ◌<◌, List, length, get_or, Option, Some, None}
use Rattle.std.specs.Int.Count.{count_leading_zeros}
use Rattle.chains.specs.Chained.{Chained}
use Rattle.masks.specs.Sets.{without}
use Rattle.masks.specs.declared.State.{State}
use Rattle.firing.specs.declared.linking.RowChains.{RowChains}
use Rattle.automata.specs.Image.{Valid, symbols_of, row_count_of, rows_start, span_start, row_at}

-- where row r of the m stands
abbrev pub place_of : List ℕ → ℕ → ℕ
place_of image r = rows_start image + 9 * r

-- how many rows stand before a place
abbrev pub rows_to : List ℕ → ℕ → ℕ
rows_to image at = (at - place_of image 0) / 9

-- row r is one of symbol s: it stands in its span
pub record Belongs (image : List ℕ) (s r : ℕ) : Type 0 where
  pub known : s < symbols_of image
  pub from : span_start image s ≤ place_of image r
  pub to : place_of image r < span_start image (suc s)

-- 1 and the highest of the case's states that X lacks, or 0 where it lacks none
unfoldable pub firing : ℕ → ℕ → ℕ
firing case X = 64 - count_leading_zeros 64 (without case X)

-- the chain of the rows that fire at the state, or of those that never do
unfoldable pub chain_of : Option State → ℕ
chain_of None = 0
chain_of (Some q) = suc q.0

-- of row r
abbrev pub fires_at : List ℕ → ℕ → ℕ → ℕ
fires_at image X r = firing (row_at image (place_of image r)).case X

-- the tables have places for all rows and all states
pub record RowRoom (image lasts links symbols : List ℕ) : Type 0 where
  pub lasts_fit : 65 ≤ length lasts
  pub links_fit : row_count_of image ≤ length links
  pub symbols_fit : row_count_of image ≤ length symbols

-- the first `count` rows are chained by the states at which they can fire, and the symbol of each is told
pub record Linked (image : List ℕ) (X count : ℕ) (lasts links symbols : List ℕ) : Type 0 where
  pub valid : Valid image
  pub room : RowRoom image lasts links symbols
  pub chained : Chained (fires_at image X) count lasts links
  pub belongs : (r : ℕ) → r < count → Belongs image (get_or symbols r 0) r

-- the same of the tables of a `RowChains`
abbrev pub LinkedBy : {N : ℕ} → List ℕ → ℕ → ℕ → RowChains N → Type 0
LinkedBy image X count chains = Linked image X count chains.lasts chains.links chains.symbols
