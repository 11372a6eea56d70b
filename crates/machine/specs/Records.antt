-- 02, 8: begin, then one step at a time. The configuration of 01's machine that record and tables stand for, what a begin and a step make of them for every
-- input, and steps one after the other. Assumes nothing: these are definitions.
use Rattle.std.specs.Prelude.{ℕ, zero, suc, Bool, List, [], ◌∷◌, map, eqb, ltb}
use Rattle.lists.specs.Tests.{◌or◌, choose}
use Rattle.lists.specs.Lists.{keep}
use Rattle.automata.specs.Image.{check}
use Rattle.machine.specs.Machine.{Configuration, Given, Rooms, Next, goes_on, advance, begin}
use Rattle.machine.specs.Lent.{Lent, zeroed, blockers_from, pending_first}
use Rattle.machine.specs.Runs.{Terms, RunRecord, Stage, system_of, given_of, rooms_of, record_of, tables_after, alone, check_run}

-- the configuration that record and tables stand for: "the places in use as they stand"
abbrev pub configuration_of : Stage → Configuration
configuration_of at = record {
  table = blockers_from at.tables.room at.run.held 0;
  level = at.run.level;
  is_open = at.run.is_open;
  pending = pending_first at.tables.word at.run.pending;
  steps = at.run.steps;
  blocks = at.run.blocks;
  accepted = at.run.accepted;
}

-- What a step leaves where the machine has come to n: its record, and in the tables the places in use after it, 0 in each place that became free; "the rest
-- stay".
unfoldable pub after : Stage → Next → Stage
after before n = record { tables = tables_after before.run.held before.run.pending before.tables n; run = record_of n }

-- one step of a record that works, given this: "the machine's step for the places in use"
unfoldable pub working_step : List ℕ → Given → Stage → Stage
working_step image given at = after at (advance (system_of image) (rooms_of at.tables) given (goes_on (configuration_of at)))

-- what a call gives back: its number, and what tables and record then hold
pub record Called : Type 0 where
  pub number : ℕ
  pub left : Stage

-- a call that is not refused gives the record's answer
abbrev pub answering : Stage → Called
answering at = record { number = at.run.answer; left = at }

-- "begin checks the input and makes the start": 01's machine as it begins, in tables that hold 0; "a refused begin gives 0 in the other fields". A begin is
-- given no allowance: its terms' is not looked at.
unfoldable pub begin_with : List ℕ → Lent → ℕ → ℕ → Called
begin_with image lent edition zero = answering (record { tables = zeroed lent; run = record_of (begin (system_of image) edition) })
begin_with image lent edition (suc number) = answering (alone lent (suc number))

unfoldable pub begin_of : List ℕ → Lent → Terms → Called
begin_of image lent terms = begin_with image lent terms.edition (check_run image lent terms)

-- 33: "a record with an answer above 6, more blockers than room, a level above the word room, more pending than levels, or more blocks or hints accepted than
-- steps"
unfoldable pub broken : Rooms → RunRecord → Bool
broken rooms run =
    ltb 6 run.answer or ltb rooms.blockers run.held or ltb rooms.word run.level or ltb run.level run.pending
    or ltb run.steps run.blocks or ltb run.steps run.accepted

-- a run's checks, then 33; 0 where none applies
unfoldable pub check_record : Stage → ℕ → ℕ
check_record at zero = check (broken (rooms_of at.tables) at.run) 33 0
check_record at (suc number) = suc number

unfoldable pub check_step : List ℕ → Terms → Stage → ℕ
check_step image terms at = check_record at (check_run image at.tables terms)

-- "a second call checks it again and makes one step"; "a finished record (0 to 5) gives its answer again and nothing changes; a refused step changes nothing
-- either, the record included"
unfoldable pub step_with : List ℕ → Given → Stage → ℕ → Called
step_with image given at zero = answering (choose (eqb at.run.answer 6) (working_step image given at) at)
step_with image given at (suc number) = record { number = suc number; left = at }

unfoldable pub step_of : List ℕ → Terms → Stage → Called
step_of image terms at = step_with image (given_of image terms) at (check_step image terms at)

-- steps one after the other, "each step getting record and rooms as the call before left them"
unfoldable pub steps_from : List ℕ → Stage → List Terms → Stage
steps_from image at [] = at
steps_from image at (terms ∷ later) = steps_from image (step_of image terms at).left later

-- "records made by begin and steps on one image, in the same rooms throughout"
abbrev pub reached_by : List ℕ → Lent → Terms → List Terms → Stage
reached_by image lent begun steps = steps_from image (begin_of image lent begun).left steps

-- the steps that a run's checks do not refuse, and what they give the machine's calls
unfoldable pub unrefused : List ℕ → Lent → List Terms → List Terms
unrefused image lent steps = keep (λ terms. eqb (check_run image lent terms) 0) steps

abbrev pub given_by : List ℕ → Lent → List Terms → List Given
given_by image lent steps = map (given_of image) (unrefused image lent steps)
