-- What the code of the print keeps of a word's run in a table. Assumes nothing: these are definitions.
use Rattle.std.specs.Prelude.{ℕ, ◌≤◌, ◌≡◌, List, [], ◌∷◌, ◌++◌, length}
use Rattle.automata.specs.Automaton.{Automaton, automaton_of, taken_back}
use Rattle.automata.specs.Picks.{reached, Event, events_of}

-- for each symbol of the word, Z taken back by what remains behind it
unfoldable pub sets_behind : Automaton → ℕ → List ℕ → List ℕ
sets_behind A Z [] = []
sets_behind A Z (s ∷ word) = taken_back A word Z ∷ sets_behind A Z word

-- the events of a word from X on, where the sets inside which rows are picked stand in a table
unfoldable pub events_by : Automaton → ℕ → List ℕ → List ℕ → List Event
events_by A X [] table = []
events_by A X (s ∷ word) [] = []
events_by A X (s ∷ word) (set ∷ table) =
    let Y = reached A.states (A.rows s) set X in
    record { symbol = s; case = Y } ∷ events_by A Y word table

-- the cases of events, and the case after them
unfoldable pub cases_of : List Event → List ℕ
cases_of [] = []
cases_of (event ∷ events) = event.case ∷ cases_of events

unfoldable pub case_after : ℕ → List Event → ℕ
case_after X [] = X
case_after X (event ∷ events) = case_after event.case events

-- a table that is long enough for the word begins with the final set taken back by what remains behind each symbol
pub record Filled (image word table : List ℕ) : Type 0 where
  pub rest : List ℕ
  pub holds : length word ≤ length table → table ≡ sets_behind (automaton_of image) (automaton_of image).final word ++ rest

-- a table that is long enough for the word begins with the cases of its run
pub record Ready (image word table : List ℕ) : Type 0 where
  pub rest : List ℕ
  pub holds : length word ≤ length table → table ≡ cases_of (events_of (automaton_of image) word) ++ rest
