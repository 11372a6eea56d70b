-- What the print answers, as 02's number and length written. Assumes nothing: these are definitions.
use Rattle.std.specs.Prelude.{ℕ, List, Option, Some, None, Result, Ok, Err}
use Rattle.automata.specs.declared.refusal.Refusal.{Refusal}
use Rattle.automata.specs.Refusals.{number_of}
use Rattle.writing.specs.Rooms.{Answer, answer_of}

-- of a word: "1 and the length" for one that is accepted, 0 for one that is not, else the refusing number
unfoldable pub print_answer : Result (Option ℕ) Refusal → List ℕ → Answer
print_answer (Ok (Some length)) room = answer_of 1 length room
print_answer (Ok None) room = answer_of 0 0 room
print_answer (Err refusal) room = answer_of (number_of refusal) 0 room
