-- The backward sets of the set so far, kept for every symbol while it grows by its states. Assumes nothing: these are definitions.
use Rattle.std.specs.Prelude.{ℕ, suc, ◌≤◌, ◌<◌, ◌≡◌, List, T, length, get_or}
use Rattle.masks.specs.Sets.{subset, within}
use Rattle.automata.specs.Image.{states_of, symbols_of, initial_of, rows_of}
use Rattle.automata.specs.Automaton.{backward}
use Rattle.machine.specs.Machine.{Blocker, settled}
use Rattle.blockers.specs.Tables.{held_in}
use Rattle.passing.specs.declared.Pending.{Pending}
use Rattle.firing.specs.Sets.{SetsOf, Below}
use Rattle.growing.specs.declared.trying.Grown.{Grown}
use Rattle.growing.specs.declared.trying.Lists.{Lists}
use Rattle.growing.specs.Near.{Near}

-- each backward set of Y is inside Y or blocked below
pub record AllSettled (image : List ℕ) (table : List Blocker) (below Y : ℕ) : Type 0 where
  pub each : (s : ℕ) → s < symbols_of image → T (settled (initial_of image) table below Y (backward (rows_of image s) Y))

-- the tables have places for all symbols
pub record SymbolRoom (image : List ℕ) (grown : Grown) (lists : Lists) : Type 0 where
  pub sets_fit : symbols_of image ≤ length grown.sets
  pub next_fits : symbols_of image ≤ length grown.next
  pub ends_fit : suc (symbols_of image) ≤ length lists.ends

-- what is known of the set, which has grown by states below q, and of the tables
pub record Growing (pending : Pending) (q : ℕ) (grown : Grown) (lists : Lists) : Type 0 where
  pub states : Below pending.x q grown.set
  pub fits : T (within (states_of pending.image.now) grown.set)
  pub room : SymbolRoom pending.image.now grown lists
  pub are : SetsOf pending.image.now grown.set grown.sets
  pub near : Near pending.image.now (held_in pending.blockers.now) pending.below.0 pending.x lists.near lists.ends
  pub settled : AllSettled pending.image.now (held_in pending.blockers.now) pending.below.0 grown.set

-- the first `count` places are the same
pub record Copied (count : ℕ) (from to : List ℕ) : Type 0 where
  pub same : (j : ℕ) → j < count → get_or to j 0 ≡ get_or from j 0
  pub long : length to ≡ 64

-- but for the sets that are tried
pub record Same (before grown : Grown) : Type 0 where
  pub set : grown.set ≡ before.set
  pub sets : grown.sets ≡ before.sets
  pub next_long : length grown.next ≡ length before.next

-- the sets of the set so far, which are settled, and those of a larger set
pub record Settling (pending : Pending) (grown : Grown) (more : ℕ) (lists : Lists) : Type 0 where
  pub inside : T (subset pending.x grown.set)
  pub larger : T (subset grown.set more)
  pub room : SymbolRoom pending.image.now grown lists
  pub were : SetsOf pending.image.now grown.set grown.sets
  pub are : SetsOf pending.image.now more grown.next
  pub near : Near pending.image.now (held_in pending.blockers.now) pending.below.0 pending.x lists.near lists.ends
  pub settled : AllSettled pending.image.now (held_in pending.blockers.now) pending.below.0 grown.set
