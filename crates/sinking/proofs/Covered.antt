-- Whether each backward set of a blocker is covered, by what the index tells of each. Assumes nothing.
use Prim.Native.Nat.{ℕ, ◌+◌, ◌≤◌, ◌<◌}
use mathlib.Core.Path.{◌≡◌, sym}
use mathlib.Core.Bool.{Bool, true, false, not}
use mathlib.Core.List.{List}
use Rattle.lists.specs.Lists.{any}
use Rattle.automata.specs.Image.{rows_of}
use Rattle.automata.specs.Automaton.{backward}
use Rattle.automata.proofs.EachSymbol.{EachTried, each_goes, each_fails, each_ends}
use Rattle.machine.specs.Machine.{Blocker, covers}
use Rattle.machine.specs.Runs.{system_of}
use Rattle.sinking.specs.Sunk.{each_covered}

-- the test of its backward sets by the index
module _ (image : List ℕ) (table : List Blocker) (level mask symbols s : ℕ) (tried : EachTried image (λ P. any (covers level P) table) mask symbols s) where
  module _ (P : ℕ) (told : Bool) (l : s < symbols) (back : P ≡ backward (rows_of image s) mask) (e : told ≡ any (covers level P) table) where
    pub covered_goes : not told ≡ false → EachTried image (λ X. any (covers level X) table) mask symbols (s + 1)
    covered_goes n = each_goes tried P told l back e n

    pub covered_fails : not told ≡ true → false ≡ each_covered (system_of image) table level mask
    covered_fails n = sym (each_fails tried P told l back e n)

  pub covered_all : symbols ≤ s → true ≡ each_covered (system_of image) table level mask
  covered_all l = sym (each_ends tried l)
