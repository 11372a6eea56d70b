-- The lists of what covers the backward sets of X, one for each symbol. Assumes nothing: these are definitions.
use Rattle.std.specs.Prelude.{ℕ, zero, suc, ◌<◌, List, T, get_or, Option, Some, None}
use Rattle.masks.specs.Sets.{subset}
use Rattle.automata.specs.Image.{symbols_of, initial_of, rows_of}
use Rattle.automata.specs.Automaton.{backward}
use Rattle.machine.specs.Machine.{Blocker}
use Rattle.covering.specs.Listed.{part, Tells}

-- the list of symbol s, which ends where `ends` says at s + 1 and begins where it says at s
abbrev pub list_of : List ℕ → List (Option ℕ) → ℕ → Option (List ℕ)
list_of near ends s = part near (get_or ends s None) (get_or ends (suc s) None)

-- whether a case that contains the backward set of X by a symbol is blocked is told by the symbol's list, where there is one
pub record Near (image : List ℕ) (table : List Blocker) (below X : ℕ) (near : List ℕ) (ends : List (Option ℕ)) : Type 0 where
  pub tells : (s : ℕ) → s < symbols_of image → (case : ℕ) → T (subset (backward (rows_of image s) X) case)
      → Tells (initial_of image) table below (list_of near ends s) case

-- where the first list begins; at level 0 no blocker covers a case, and there are no lists
unfoldable pub first_place : ℕ → Option ℕ
first_place zero = None
first_place (suc below) = Some 0
