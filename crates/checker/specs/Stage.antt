-- The checker's record and tables as the machine's stage, and what its functions leave of them. Assumes nothing: these are definitions.
use Rattle.std.specs.Prelude.{ℕ, ◌+◌, ◌≤◌, ◌<◌, ◌≡◌, Bool, true, false, List, [], ◌∷◌, length, Result, Ok, Err}
use Rattle.lists.specs.Tests.{choose}
use Rattle.automata.specs.Image.{initial_of, final_of}
use Rattle.automata.specs.WordTest.{one_if}
use Rattle.automata.specs.declared.refusal.Refusal.{Refusal}
use Rattle.automata.specs.Refusals.{number_of}
use Rattle.machine.specs.System.{System}
use Rattle.machine.specs.Machine.{Pending, Configuration, Step, judge, word_of, block_step, chosen}
use Rattle.machine.specs.Lent.{BlockerRoom, EvenRoom, WordRoom, Lent, lent_of, with_table, with_pending, with_word}
use Rattle.machine.specs.Runs as Machine
use Rattle.machine.specs.Runs.{RunRecord, Stage, alone_record, system_of, rooms_of, given_of}
use Rattle.machine.specs.Records.{configuration_of, after}
use Rattle.machine.specs.Promises.{Unbroken}
use Rattle.blockers.specs.Room.{table_of}
use Rattle.blockers.specs.Tables.{room_in}
use Rattle.blockers.specs.declared.room.BlockerRoom as Blockers
use Rattle.wordroom.specs.Tables.{word_in}
use Rattle.wordroom.specs.declared.WordRoom as Word
use Rattle.closing.specs.Close.{is_empty, empty_level, closed_by}
use Rattle.checker.specs.declared.record.Answer.{Answer}
use Rattle.checker.specs.declared.record.Answer.TheVariants as Is
use Rattle.checker.specs.declared.record.Run.{Run}
use Rattle.checker.specs.declared.terms.Terms.{Terms}
use Rattle.checker.specs.declared.terms.Way.{Way}
use Rattle.checker.specs.declared.terms.Way.TheVariants.{ByStates, ByHittingSet}
use Rattle.checker.specs.declared.terms.Given.{Given}
use Rattle.checker.specs.declared.terms.Edition.{Edition}
use Rattle.checker.specs.declared.terms.Edition.TheVariants.{First, Second}

-- the terms of a run
abbrev pub terms_of : List ℕ → ℕ → ℕ → ℕ → Machine.Terms
terms_of hints allowance edition way = record { hints = hints; allowance = allowance; edition = edition; way = way }

-- those that the caller's struct says
abbrev pub terms_in : Terms → Machine.Terms
terms_in terms = terms_of terms.hints.now terms.allowance terms.edition terms.way

-- 02's number of an edition
abbrev pub number_of_edition : Edition → ℕ
number_of_edition First = 1
number_of_edition Second = 2

-- "The caller chooses, 0 for 01's way, 1 for this"
abbrev pub number_of_way : Way → ℕ
number_of_way ByStates = 0
number_of_way ByHittingSet = 1

-- the terms that no check refused
abbrev pub terms_given : Given → Machine.Terms
terms_given given = terms_of given.hints.now given.allowance (number_of_edition given.edition) (number_of_way given.way)

-- 01's and 02's number of an answer
abbrev pub number_of_answer : Answer → ℕ
number_of_answer Is.Empty = 0
number_of_answer Is.Word = 1
number_of_answer Is.StepsUsedUp = 2
number_of_answer Is.BlockerRoomFull = 3
number_of_answer Is.WordRoomFull = 4
number_of_answer Is.StartsFinal = 5
number_of_answer Is.Working = 6

-- the struct as the machine's record
abbrev pub record_in : Run → RunRecord
record_in run = record {
  answer = number_of_answer run.answer;
  steps = run.steps;
  level = run.level.0;
  is_open = run.opened;
  held = run.held;
  pending = run.pending;
  blocks = run.blocks;
  accepted = run.accepted;
}

-- what begin and run answer, as a record: a refusal gives its number alone, with 0 in the other fields
abbrev pub record_left : Result Run Refusal → RunRecord
record_left (Ok run) = record_in run
record_left (Err refusal) = alone_record (number_of refusal)

-- what is lent
abbrev pub lent_in : Blockers.BlockerRoom → Word.WordRoom → Lent
lent_in room word = lent_of (room_in room) (word_in word)

-- what begin and run leave, in tables and record
abbrev pub stage_left : Blockers.BlockerRoom → Word.WordRoom → Result Run Refusal → Stage
stage_left room word answer = record { tables = lent_in room word; run = record_left answer }

-- the tables and the record, as they stand between two steps
abbrev pub stage : BlockerRoom → WordRoom → RunRecord → Stage
stage room word run = record { tables = lent_of room word; run = run }

abbrev pub stage_in : Blockers.BlockerRoom → Word.WordRoom → Run → Stage
stage_in room word run = stage (room_in room) (word_in word) (record_in run)

-- what a machine's step leaves, judged by the rooms
unfoldable pub made_by : (Configuration → Step) → Stage → Stage
made_by make at = after at (judge (rooms_of at.tables) (configuration_of at) (make (configuration_of at)))

-- the block of the lowest pending case X, which is one level above `below`; the cases above it are `rest`
unfoldable pub block_of : List ℕ → Machine.Terms → List Pending → ℕ → ℕ → Configuration → Step
block_of image terms rest below X c =
    block_step (initial_of image) (final_of image ∷ []) c rest below (chosen (system_of image) (given_of image terms) c below X)

-- What a step needs of the tables and the record: the rooms' tables are of one length, the word room has at most 65,536 places, and 33 does not refuse it.
pub record Ready (at : Stage) : Type 0 where
  pub blocker_room : EvenRoom at.tables.room
  pub word_room : length at.tables.word.cases ≡ length at.tables.word.symbols
  pub room_fits : length at.tables.word.cases ≤ 65536
  pub bounds : Unbroken (rooms_of at.tables) at.run

-- the record with this answer and so many cases pending
abbrev pub left_of : RunRecord → ℕ → ℕ → RunRecord
left_of run answer pending = record {
  answer = answer;
  steps = run.steps;
  level = run.level;
  is_open = run.is_open;
  held = run.held;
  pending = pending;
  blocks = run.blocks;
  accepted = run.accepted;
}

-- the same after one step more
abbrev pub counted_of : RunRecord → ℕ → ℕ → RunRecord
counted_of run answer pending = record {
  answer = answer;
  steps = run.steps + 1;
  level = run.level;
  is_open = run.is_open;
  held = run.held;
  pending = pending;
  blocks = run.blocks;
  accepted = run.accepted;
}

-- the record after a block that left `held` blockers and so many cases pending, and took a hint or not
abbrev pub blocked_of : RunRecord → ℕ → ℕ → Bool → RunRecord
blocked_of run held pending hinted = record {
  answer = 6;
  steps = run.steps + 1;
  level = run.level;
  is_open = run.is_open;
  held = held;
  pending = pending;
  blocks = run.blocks + 1;
  accepted = run.accepted + one_if hinted;
}

-- the record after a close that left `held` blockers
abbrev pub closed_of : RunRecord → ℕ → ℕ → RunRecord
closed_of run answer held = record {
  answer = answer;
  steps = run.steps + 1;
  level = run.level;
  is_open = false;
  held = held;
  pending = 0;
  blocks = run.blocks;
  accepted = run.accepted;
}

-- the close of the run's level: it works on or ends with the frame, and the blockers that stay stand in place of those that were held
pub record ClosesLevel (S : System) (run r : RunRecord) (room room' : BlockerRoom) : Type 0 where
  pub record_is : r ≡ closed_of run (choose (is_empty (empty_level S run.level (table_of run.held room))) 0 6)
      (length (closed_by S run.level (table_of run.held room)))
  pub tables : room' ≡ with_table run.held (closed_by S run.level (table_of run.held room)) room

-- what is left where the blockers stay: this record, and this word room
pub record Leaves (run : RunRecord) (word : WordRoom) (r : RunRecord) (word' : WordRoom) : Type 0 where
  pub record_is : r ≡ run
  pub word_is : word' ≡ word

-- the record after an open, with so many cases pending
abbrev pub opened_of : RunRecord → ℕ → RunRecord
opened_of run pending = record {
  answer = 6;
  steps = run.steps + 1;
  level = run.level + 1;
  is_open = true;
  held = run.held;
  pending = pending;
  blocks = run.blocks;
  accepted = run.accepted;
}

-- "Open: N grows by 1 and is open", with these cases pending then; or, "the level equals the word room", the run ends under 4. The first argument is
-- whether there is a level more in the word room.
abbrev pub Opened : Bool → RunRecord → List Pending → WordRoom → RunRecord → WordRoom → Type 0
Opened true run pending word = Leaves (opened_of run (length pending)) (with_pending run.pending pending word)
Opened false run pending word = Leaves (left_of run 4 0) (with_word run.pending [] word)

-- after a blocker has entered, so that `held` are held, and took a hint or not: these cases are pending
abbrev pub Unpends : RunRecord → ℕ → Bool → List Pending → WordRoom → RunRecord → WordRoom → Type 0
Unpends run held hinted pending word = Leaves (blocked_of run held (length pending) hinted) (with_pending run.pending pending word)

-- "If P contains I: answer 1; the word is that symbol, then the symbols that led to the pending cases from the lowest level up. Otherwise P becomes
-- pending": p has P and the symbol, and the first argument is whether P contains I
abbrev pub Extended : Bool → RunRecord → Pending → List Pending → WordRoom → RunRecord → WordRoom → Type 0
Extended true run p pending word = Leaves (counted_of run 1 0) (with_word run.pending (p.symbol ∷ word_of pending) word)
Extended false run p pending word = Leaves (counted_of run 6 (run.pending + 1)) (with_pending run.pending (p ∷ pending) word)

-- these cases are pending in place of `before` ones, and how many they are
pub record Pends (before : ℕ) (pending : List Pending) (count : ℕ) (word word' : WordRoom) : Type 0 where
  pub counted : count ≡ length pending
  pub word_is : word' ≡ with_pending before pending word

-- what a block needs of the record: the counts have room
pub record Countable (run : RunRecord) : Type 0 where
  pub few_steps : run.steps < 18446744073709551615
  pub few_blocks : run.blocks ≤ run.steps
  pub few_accepted : run.accepted ≤ run.steps
