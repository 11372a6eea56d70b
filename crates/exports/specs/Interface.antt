-- What the C interface gives back: for a run 01's five numbers and the lent tables; for begin and step the number, the record and the lent
-- tables; for a reason its number and two values; for bytes the number, the length and the room.
-- Assumes nothing: these are definitions.
use Rattle.std.specs.Prelude.{ℕ, ◌≡◌, List, [], ◌∷◌, eqb, ltb, get_or}
use Rattle.lists.specs.Tests.{◌and◌, neg, choose}
use Rattle.writing.specs.Rooms.{Answer}
use Rattle.machine.specs.Lent.{Lent}
use Rattle.machine.specs.Why.{Reason, by_blocker, by_start, nothing}
use Rattle.machine.specs.Runs.{RunRecord, Stage, five_numbers}
use Rattle.machine.specs.Records.{Called}

-- what a run gave back is what it left: the number and the four counts beside it, and what each table holds
pub record Ran (number : ℕ) (counts : List ℕ) (tables : Lent) (left : Stage) : Type 0 where
  pub numbered : number ∷ counts ≡ five_numbers left.run
  pub holds : tables ≡ left.tables

-- a record as eight numbers, in 02's order: 1 where the level is open, else 0
unfoldable pub numbers_of : RunRecord → List ℕ
numbers_of run =
    run.answer ∷ run.steps ∷ run.level ∷ choose run.is_open 1 0 ∷ run.held ∷ run.pending ∷ run.blocks ∷ run.accepted ∷ []

-- the record of eight numbers: the level is open by every number but 0
abbrev pub record_from : List ℕ → RunRecord
record_from numbers = record {
  answer = get_or numbers 0 0;
  steps = get_or numbers 1 0;
  level = get_or numbers 2 0;
  is_open = neg (eqb (get_or numbers 3 0) 0);
  held = get_or numbers 4 0;
  pending = get_or numbers 5 0;
  blocks = get_or numbers 6 0;
  accepted = get_or numbers 7 0;
}

-- the eight numbers after a call of this number that left this record: where it made a step, since the record worked and no check refused it, those of the record;
-- else as they were, whatever number stood for open
unfoldable pub numbers_after : List ℕ → ℕ → RunRecord → List ℕ
numbers_after before number run = choose (eqb (get_or before 0 0) 6 and ltb number 20) (numbers_of run) before

-- what a call gave back is this: its number, these eight numbers, and what each table holds
pub record Gave (number : ℕ) (numbers expected : List ℕ) (tables : Lent) (called : Called) : Type 0 where
  pub numbered : number ≡ called.number
  pub recorded : numbers ≡ expected
  pub holds : tables ≡ called.left.tables

abbrev pub BeginGave : ℕ → List ℕ → Lent → Called → Type 0
BeginGave number numbers tables called = Gave number numbers (numbers_of called.left.run) tables called

abbrev pub StepGave : List ℕ → ℕ → List ℕ → Lent → Called → Type 0
StepGave before number numbers tables called = Gave number numbers (numbers_after before called.number called.left.run) tables called

-- which reason it is, and its values: a blocker's place and level, or a state and 0
unfoldable pub reason_number : Reason → ℕ
reason_number nothing = 0
reason_number (by_blocker place level) = 1
reason_number (by_start q) = 2

unfoldable pub reason_values : Reason → List ℕ
reason_values nothing = 0 ∷ 0 ∷ []
reason_values (by_blocker place level) = place ∷ level ∷ []
reason_values (by_start q) = q ∷ 0 ∷ []

-- what was told of a reason
pub record Told (number : ℕ) (values : List ℕ) (reason : Reason) : Type 0 where
  pub numbered : number ≡ reason_number reason
  pub valued : values ≡ reason_values reason

-- what was written into a room: the number, the length in the one place that is lent for it, and what the room holds
pub record Wrote (number : ℕ) (lengths room : List ℕ) (answer : Answer) : Type 0 where
  pub numbered : number ≡ answer.number
  pub counted : lengths ≡ answer.written ∷ []
  pub holds : room ≡ answer.room
