use Rattle.std.proofs.Common.{rules}
use Rattle.printing.specs.Answers.{print_answer}
use Rattle.exports.proofs.Prints.{wrote_is}
use Rattle.exports.proofs.afa_print_run.Goals as goal

pub returns-in-Err : goal.returns-in-Err
unfolding print_answer
returns-in-Err c = search (wrote_is, rules)

pub returns-in-Ok-None : goal.returns-in-Ok-None
unfolding print_answer
returns-in-Ok-None c = search (wrote_is, rules)

pub returns-in-Ok-Some : goal.returns-in-Ok-Some
unfolding print_answer
returns-in-Ok-Some c = search (wrote_is, rules)
