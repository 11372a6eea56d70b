-- Begin and step: the record that a caller keeps, with the tables beside it, as the machine's stage; and what a number of the caller's stands for. Assumes
-- nothing: these are definitions.
use Rattle.std.specs.Prelude.{ℕ, zero, suc, ◌≡◌, Result, Ok, Err}
use Rattle.automata.specs.declared.refusal.Refusal.{Refusal}
use Rattle.automata.specs.declared.refusal.Refusal.TheVariants.{BrokenRecord, UnknownEdition, UnknownWay}
use Rattle.automata.specs.Refusals.{number_of}
use Rattle.machine.specs.Runs.{RunRecord, Stage}
use Rattle.machine.specs.Records.{Called}
use Rattle.blockers.specs.declared.room.BlockerRoom as Blockers
use Rattle.wordroom.specs.declared.WordRoom as Word
use Rattle.checker.specs.declared.record.Answer.{Answer}
use Rattle.checker.specs.declared.record.Answer.TheVariants.{Empty, Word, StepsUsedUp, BlockerRoomFull, WordRoomFull, StartsFinal, Working}
use Rattle.checker.specs.declared.record.Record.{Record}
use Rattle.checker.specs.declared.record.Run.{Run}
use Rattle.checker.specs.declared.terms.Edition.{Edition}
use Rattle.checker.specs.declared.terms.Edition.TheVariants.{First, Second}
use Rattle.checker.specs.declared.terms.Way.{Way}
use Rattle.checker.specs.declared.terms.Way.TheVariants.{ByStates, ByHittingSet}
use Rattle.checker.specs.Stage.{lent_in, number_of_answer, record_in}

-- the edition of a number, or 36
abbrev pub edition_of : ℕ → Result Edition Refusal
edition_of zero = Err UnknownEdition
edition_of (suc zero) = Ok First
edition_of (suc (suc zero)) = Ok Second
edition_of (suc (suc (suc number))) = Err UnknownEdition

abbrev pub EditionOf : ℕ → Result Edition Refusal → Type 0
EditionOf number answer = answer ≡ edition_of number

-- the way of a number, or 37
abbrev pub way_of : ℕ → Result Way Refusal
way_of zero = Ok ByStates
way_of (suc zero) = Ok ByHittingSet
way_of (suc (suc number)) = Err UnknownWay

abbrev pub WayOf : ℕ → Result Way Refusal → Type 0
WayOf number answer = answer ≡ way_of number

-- the answer of a number, or 33: "a record with an answer above 6"
abbrev pub answer_of : ℕ → Result Answer Refusal
answer_of zero = Ok Empty
answer_of (suc zero) = Ok Word
answer_of (suc (suc zero)) = Ok StepsUsedUp
answer_of (suc (suc (suc zero))) = Ok BlockerRoomFull
answer_of (suc (suc (suc (suc zero)))) = Ok WordRoomFull
answer_of (suc (suc (suc (suc (suc zero))))) = Ok StartsFinal
answer_of (suc (suc (suc (suc (suc (suc zero)))))) = Ok Working
answer_of (suc (suc (suc (suc (suc (suc (suc number))))))) = Err BrokenRecord

abbrev pub AnswerOf : ℕ → Result Answer Refusal → Type 0
AnswerOf number answer = answer ≡ answer_of number

-- the struct as the machine's record
abbrev pub record_as : Record → RunRecord
record_as lent = record {
  answer = lent.answer;
  steps = lent.steps;
  level = lent.level.0;
  is_open = lent.opened;
  held = lent.held;
  pending = lent.pending;
  blocks = lent.blocks;
  accepted = lent.accepted;
}

-- the tables and the record, as they stand between two calls
abbrev pub stage_as : Blockers.BlockerRoom → Word.WordRoom → Record → Stage
stage_as room word lent = record { tables = lent_in room word; run = record_as lent }

-- what a step that a check may refuse leaves: the run's record, or the one that was there
abbrev pub record_stepped : Record → Result Run Refusal → RunRecord
record_stepped before (Ok run) = record_in run
record_stepped before (Err refusal) = record_as before

-- and its number
abbrev pub number_stepped : Result Run Refusal → ℕ
number_stepped (Ok run) = number_of_answer run.answer
number_stepped (Err refusal) = number_of refusal

abbrev pub stepped_as : Blockers.BlockerRoom → Word.WordRoom → Record → Result Run Refusal → Called
stepped_as room word before answer = record { number = number_stepped answer; left = record { tables = lent_in room word; run = record_stepped before answer } }

-- 01's number for what a step answers
abbrev pub number_answered : Result Answer Refusal → ℕ
number_answered (Ok answer) = number_of_answer answer
number_answered (Err refusal) = number_of refusal

-- what a step gives back, with what the tables and the record then hold
abbrev pub called_as : Blockers.BlockerRoom → Word.WordRoom → Result Answer Refusal → Record → Called
called_as room word answer lent = record { number = number_answered answer; left = stage_as room word lent }

-- the number of what a check answers: 0 where it refuses nothing
abbrev pub number_checked : {A : Type 0} → Result A Refusal → ℕ
number_checked (Ok passed) = 0
number_checked (Err refusal) = number_of refusal
