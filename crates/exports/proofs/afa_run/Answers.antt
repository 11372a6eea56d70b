use Rattle.std.proofs.Common.{rules}
use Rattle.machine.specs.Runs.{five_numbers}
use Rattle.exports.proofs.afa_run.Goals as goal

pub returns : goal.returns
unfolding five_numbers
returns c = search rules
