use borrow.Author.Rules.{rules}
use Rattle.growing.proofs.Copies.{copy_starts, copy_two, copied_all}
use Rattle.growing.proofs.trying.copy.Goals as goal

pub loop-i-init : goal.loop-i-init
loop-i-init c = search (copy_starts, rules)

pub loop-i-preserved : goal.loop-i-preserved
loop-i-preserved c = search (copy_two, rules)

pub returns : goal.returns
returns c = search (copied_all, rules)
