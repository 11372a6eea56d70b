-- What has been put into a room of a word's run. Assumes nothing: these are definitions.
use Rattle.std.specs.Prelude.{ℕ, ◌≡◌, List, [], ◌∷◌, map}
use Rattle.automata.specs.Picks.{Event}
use Rattle.writing.specs.Lines.{text_of}
use Rattle.writing.specs.Putting.{Puts}
use Rattle.machine.specs.Print.{event_numbers}
use Rattle.printing.specs.Steps.{case_after}

-- the events of a word whose cases stand in a table
unfoldable pub events_in : List ℕ → List ℕ → List Event
events_in [] table = []
events_in (s ∷ word) [] = []
events_in (s ∷ word) (case ∷ table) = record { symbol = s; case = case } ∷ events_in word table

-- the lines of events
unfoldable pub event_lines : List Event → List ℕ
event_lines events = text_of (map event_numbers events)

-- the lines of events from X on were put into a room, with the case after them
pub record PutsEvents (events : List Event) (X start limit end case : ℕ) (before after : List ℕ) : Type 0 where
  pub lines : Puts (event_lines events) start limit end before after
  pub last : case ≡ case_after X events
