use Rattle.std.proofs.Common.{rules}
use Rattle.automata.specs.Answers.{image_number, head_after}
use Rattle.exports.proofs.afa_read.Goals as goal

pub returns-in-Err-clause-number : goal.returns-in-Err-clause-number
unfolding image_number
returns-in-Err-clause-number c = search rules

pub returns-in-Err-clause-values : goal.returns-in-Err-clause-values
unfolding head_after
returns-in-Err-clause-values c = search rules

pub returns-in-Ok-clause-number : goal.returns-in-Ok-clause-number
unfolding image_number
returns-in-Ok-clause-number c = search rules

pub returns-in-Ok-clause-values : goal.returns-in-Ok-clause-values
unfolding head_after
returns-in-Ok-clause-values c = search rules
