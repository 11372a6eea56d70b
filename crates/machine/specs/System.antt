-- A backward system: all that the machine knows of an automaton. Rows, formulas and bytes are behind it. Assumes nothing.
use Rattle.std.specs.Prelude.{ℕ, List}

-- n states, k symbols, the initial case I, the largest final cases (in the base F alone), and the backward set of a case by a symbol
pub record System : Type 0 where
  pub states : ℕ
  pub symbols : ℕ
  pub initial : ℕ
  pub finals : List ℕ
  pub backward : ℕ → ℕ → ℕ
