-- What the lines answer, as 01's number and length written. Assumes nothing: these are definitions.
use Rattle.std.specs.Prelude.{ℕ, List, Result, Ok, Err}
use Rattle.automata.specs.declared.refusal.Refusal.{Refusal}
use Rattle.automata.specs.Refusals.{number_of}
use Rattle.writing.specs.Rooms.{Answer, answer_of}

-- 0 and the length, or the refusing number
unfoldable pub lines_answer : Result ℕ Refusal → List ℕ → Answer
lines_answer (Ok length) room = answer_of 0 length room
lines_answer (Err refusal) room = answer_of (number_of refusal) 0 room
