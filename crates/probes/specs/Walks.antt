-- What the walk over a symbol's rows gives back to the tests. Assumes nothing: these are definitions.
use Rattle.std.specs.Prelude.{ℕ, List, [], ◌∷◌, ltb}
use Rattle.lists.specs.Tests.{choose}
use Rattle.std.specs.Prelude.{Result, Ok, Err}
use Rattle.automata.specs.Image.{states_of, symbols_of, rows_of}
use Rattle.automata.specs.Automaton.{backward, rows_walked}
use Rattle.automata.specs.Refusals.{number_of}
use Rattle.automata.specs.declared.refusal.Refusal.{Refusal}

-- the number: 0; 32 where the symbol is k or above; the refusing number of an image that is refused
unfoldable pub walk_number : ℕ → Result (List ℕ) Refusal → ℕ
walk_number s (Ok image) = choose (ltb s (symbols_of image)) 0 32
walk_number s (Err refusal) = number_of refusal

-- the two places: the backward set of X by the symbol and the rows walked for it; what stood there before, where the number is not 0
unfoldable pub walked_after : List ℕ → ℕ → ℕ → Result (List ℕ) Refusal → List ℕ
walked_after before s X (Ok image) =
    choose (ltb s (symbols_of image)) (backward (rows_of image s) X ∷ rows_walked (states_of image) (rows_of image s) X ∷ []) before
walked_after before s X (Err refusal) = before
