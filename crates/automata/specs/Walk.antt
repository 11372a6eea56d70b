-- The walks over a symbol's rows, for a backward set and for the picks of a run: what they answer, and what their functions ask of one another.
-- Assumes nothing: these are definitions.
use Rattle.std.specs.Prelude.{ℕ, ◌+◌, ◌-◌, ◌*◌, ◌/◌, ◌%◌, ◌≤◌, ◌<◌, ◌≡◌, List, T, length, take}
use Rattle.lists.specs.Tests.{◌and◌, choose}
use Rattle.lists.specs.Lists.{Each}
use Rattle.masks.specs.Sets.{subset, union, single, absent}
use Rattle.automata.specs.Image.{Row, Valid, states_of, rows_from}
use Rattle.automata.specs.declared.rows.Row as Read
use Rattle.automata.specs.Automaton.{with_rows, backward, bring_all_in, rows_walked}
use Rattle.automata.specs.declared.backward.Sets.{Sets}
use Rattle.automata.specs.declared.picks.Picked.{Picked}

-- the answer of a walk over the rows of an automaton with n states: the backward set of X, and how many of the rows were walked
pub record Walks (n : ℕ) (rows : List Row) (X set walked : ℕ) : Type 0 where
  pub states : set ≡ backward rows X
  pub counted : walked ≡ rows_walked n rows X

-- what was read, as a row
abbrev pub row_of : Read.Row → Row
row_of row = record { state = row.state.0; case = row.case }

-- so many rows stand in the image from a place on, and the state of each fits a mask
pub record RowsStand (image : List ℕ) (count at : ℕ) : Type 0 where
  pub inside : at + 9 * count ≤ length image
  pub states : Each (λ row. row.state < 64) (rows_from image count at)

-- the rows from a place to an end
abbrev pub rows_between : List ℕ → ℕ → ℕ → List Row
rows_between image start end = rows_from image ((end - start) / 9) start

-- whole rows of a valid image stand there, and have states of the automaton
pub record Span (image : List ℕ) (start end : ℕ) : Type 0 where
  pub valid : Valid image
  pub ordered : start ≤ end
  pub inside : end ≤ length image
  pub nines : (end - start) % 9 ≡ 0
  pub states : Each (λ row. row.state < states_of image) (rows_between image start end)

-- a walk over these rows has come to the row at `at`
pub record AtRow (image : List ℕ) (start end at : ℕ) : Type 0 where
  pub span : Span image start end
  pub rows : ℕ
  pub place : at ≡ start + 9 * rows
  pub ordered : at ≤ end

-- and there the walk for the backward set of X: the rows before gave the set, and have not brought all states in
pub record Walking (image : List ℕ) (start end X at set : ℕ) : Type 0 where
  pub at_row : AtRow image start end at
  pub so_far : set ≡ backward (take at_row.rows (rows_between image start end)) X
  pub not_all : T (bring_all_in (states_of image) (rows_between image start end) X at_row.rows) → ⊥

-- the walk ends there: the set, and the number of the rows before the place, are its answer
pub record Ended (image : List ℕ) (start end X at set : ℕ) : Type 0 where
  pub behind : start ≤ at
  pub walks : Walks (states_of image) (rows_between image start end) X set ((at - start) / 9)

-- the sets after one, two and three rows from a place on
pub record ThreeRows (image : List ℕ) (X set at : ℕ) (sets : Sets) : Type 0 where
  pub one : sets.one ≡ with_rows X set (rows_from image 1 at)
  pub two : sets.two ≡ with_rows X set (rows_from image 2 at)
  pub three : sets.three ≡ with_rows X set (rows_from image 3 at)

-- One walk over the rows picks for all states of X: a row is picked where its state has not picked and its case lies inside the set. So far: the states
-- that have picked, and the union of the picked cases.
unfoldable pub pick_row : ℕ → ℕ → Picked → Row → Picked
pick_row set X so_far row =
    choose (absent X so_far.states row.state and subset row.case set)
    (record { states = union so_far.states (single row.state); case = union so_far.case row.case })
    so_far
