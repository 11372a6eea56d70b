use borrow.Author.Rules.{rules}
use Rattle.printing.proofs.SetsBehind.{filling_starts, filling_known, filling_next}
use Rattle.printing.proofs.steps.fill.Goals as goal

pub loop-i-init : goal.loop-i-init
loop-i-init c = search (filling_starts, rules)

pub backward-case-requires : goal.backward-case-requires
backward-case-requires c = search (filling_known, rules)

pub loop-i-preserved : goal.loop-i-preserved
loop-i-preserved c = search (filling_next, rules)
