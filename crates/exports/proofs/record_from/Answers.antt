use Rattle.std.proofs.Common.{rules}
use Rattle.lists.specs.Tests.{neg}
use Rattle.exports.proofs.record_from.Goals as goal

pub returns : goal.returns
unfolding neg
returns c = search rules
