use Rattle.exports.specs.Interface.{numbers_of}
use Rattle.exports.proofs.Calls.{open_number}
use Rattle.exports.proofs.numbers_of.Goals as goal

pub returns : goal.returns
unfolding numbers_of
returns c = rw (c.from.ensures, open_number c.args.left.opened)
