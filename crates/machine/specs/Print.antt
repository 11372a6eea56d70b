-- The print of a word's run, as 02's request 1 has it, and its answer for every input. Assumes nothing: these are definitions.
use Rattle.std.specs.Prelude.{ℕ, List, [], ◌∷◌, map, eqb}
use Rattle.lists.specs.Tests.{choose}
use Rattle.automata.specs.Automaton.{Automaton, automaton_of}
use Rattle.automata.specs.WordTest.{word_test}
use Rattle.automata.specs.Picks.{Event, events_of}
use Rattle.writing.specs.Lines.{text_of}
use Rattle.writing.specs.Rooms.{Answer, no_bytes, fitted_bytes}

-- the numbers of an event's line: "the symbol and the case reached"
unfoldable pub event_numbers : Event → List ℕ
event_numbers event = event.symbol ∷ event.case ∷ []

-- "The print is a line with I, then for each event one with the symbol and the case reached"
unfoldable pub run_lines : Automaton → List ℕ → List (List ℕ)
run_lines A word = (A.initial ∷ []) ∷ map event_numbers (events_of A word)

-- the bytes of the print
unfoldable pub print_of : Automaton → List ℕ → List ℕ
print_of A word = text_of (run_lines A word)

-- "the word test's come first; a word not accepted gives 0, a room too short 35": the word test's number where that is not 1, which is the print's success
unfoldable pub print_run : List ℕ → List ℕ → List ℕ → Answer
print_run image word room =
    let print = fitted_bytes 1 (print_of (automaton_of image) word) room in
    choose (eqb (word_test image word) 1) print (no_bytes (word_test image word) room)
