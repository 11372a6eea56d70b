use Rattle.checker.proofs.Stages.{final_blocked, final_free}
use Rattle.std.proofs.Common.{rules}
use Rattle.checker.proofs.steps.pend_final.Goals as goal

pub returns-then-block-clause-pends : goal.returns-then-block-clause-pends
returns-then-block-clause-pends c = search (final_blocked, rules)

pub returns-clause-pends : goal.returns-clause-pends
returns-clause-pends c = search (final_free, rules)
