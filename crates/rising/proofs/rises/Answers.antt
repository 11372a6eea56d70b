use borrow.Author.Rules.{rules}
use Rattle.rising.proofs.Blocked.{rise_other, rise_goes, rise_unblocked, rise_blocked}
use Rattle.rising.proofs.rises.Goals as goal

pub returns-then-ne : goal.returns-then-ne
returns-then-ne c = search (rise_other, rules)

pub returns-then-not-block : goal.returns-then-not-block
returns-then-not-block c = search (rise_unblocked, rules)

pub loop-s-preserved : goal.loop-s-preserved
loop-s-preserved c = search (rise_goes, rules)

pub returns : goal.returns
returns c = search (rise_blocked, rules)
