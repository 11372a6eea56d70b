-- The automaton of 01, its backward sets and the rows walked for one, and when two images hold one automaton. Assumes nothing: these are definitions.
use Rattle.std.specs.Prelude.{ℕ, ◌<◌, ◌≡◌, Bool, List, [], ◌∷◌, ◌↔◌, T, length, take}
use Rattle.lists.specs.Tests.{choose}
use Rattle.lists.specs.Lists.{◌∈◌, first_from, or_else}
use Rattle.masks.specs.Sets.{subset, union, single, full}
use Rattle.automata.specs.Image.{Row, states_of, symbols_of, initial_of, final_of, rows_of}

-- "States 0 to n−1, symbols 0 to k−1. .. There is an initial case I and a final set F"; and the rows of each symbol
pub record Automaton : Type 0 where
  pub states : ℕ
  pub symbols : ℕ
  pub initial : ℕ
  pub final : ℕ
  pub rows : ℕ → List Row

-- the automaton that an image holds
abbrev pub automaton_of : List ℕ → Automaton
automaton_of image = record {
  states = states_of image;
  symbols = symbols_of image;
  initial = initial_of image;
  final = final_of image;
  rows = rows_of image;
}

-- the set, and the row's state too if the row's case is a subset of X
unfoldable pub with_row : ℕ → ℕ → Row → ℕ
with_row X set row = choose (subset row.case X) (union set (single row.state)) set

unfoldable pub with_rows : ℕ → ℕ → List Row → ℕ
with_rows X set [] = set
with_rows X set (row ∷ rows) = with_rows X (with_row X set row) rows

-- "The backward set of a case X by symbol s is the set of states with a row by s whose case is a subset of X." Here of the symbol's rows.
unfoldable pub backward : List Row → ℕ → ℕ
backward rows X = with_rows X 0 rows

-- the row is one of state q, and its case is a subset of X
pub record Leads (row : Row) (q X : ℕ) : Type 0 where
  pub state : row.state ≡ q
  pub inside : T (subset row.case X)

-- one of the rows is: what it means that q is in the backward set of X
pub record HasRow (rows : List Row) (q X : ℕ) : Type 0 where
  pub row : Row
  pub listed : row ∈ rows
  pub leads : Leads row q X

-- the first `count` rows bring all n states in
unfoldable pub bring_all_in : ℕ → List Row → ℕ → ℕ → Bool
bring_all_in n rows X count = subset (full n) (backward (take count rows) X)

-- 02, 3: "how many of the symbol's rows it walked: the least number of first rows that brings all n in, or all rows if they never are"
unfoldable pub rows_walked : ℕ → List Row → ℕ → ℕ
rows_walked n rows X = or_else (first_from (bring_all_in n rows X) (length rows) 0) (length rows)

-- the case taken back by the word's symbols, "from last to first"
unfoldable pub taken_back : Automaton → List ℕ → ℕ → ℕ
taken_back A [] X = X
taken_back A (s ∷ word) X = backward (A.rows s) (taken_back A word X)

-- "images that differ only in the order of a symbol's rows and in how often each stands (so in m and the pairs too) hold one automaton"
pub record SameAutomaton (A B : Automaton) : Type 0 where
  pub states : A.states ≡ B.states
  pub symbols : A.symbols ≡ B.symbols
  pub initial : A.initial ≡ B.initial
  pub final : A.final ≡ B.final
  pub rows : (s : ℕ) → s < A.symbols → (row : Row) → row ∈ A.rows s ↔ row ∈ B.rows s

abbrev pub HoldOne : List ℕ → List ℕ → Type 0
HoldOne image other = SameAutomaton (automaton_of image) (automaton_of other)
