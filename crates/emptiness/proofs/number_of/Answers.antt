use borrow.Author.Rules.{rules}
use Rattle.automata.specs.Answers.{image_number}
use Rattle.emptiness.proofs.number_of.Goals as goal

pub returns-in-Ok : goal.returns-in-Ok
unfolding image_number
returns-in-Ok c = search rules

pub returns-in-Err : goal.returns-in-Err
unfolding image_number
returns-in-Err c = search rules
