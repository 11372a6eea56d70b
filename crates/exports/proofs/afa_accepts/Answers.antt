use Rattle.std.proofs.Common.{rules}
use mathlib.Core.Path.{◌∙◌}
use Rattle.automata.specs.Answers.{word_number}
use Rattle.exports.proofs.Calls.{accepted_number}
use Rattle.exports.proofs.afa_accepts.Goals as goal

pub returns-in-Err : goal.returns-in-Err
unfolding word_number
returns-in-Err c = search rules

pub returns-in-Ok : goal.returns-in-Ok
unfolding word_number
returns-in-Ok c = c.from-in-Ok.ensures ∙ accepted_number c.in-Ok.accepted ∙ c.in-Ok.ensures
