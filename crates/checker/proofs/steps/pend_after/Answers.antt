use Rattle.checker.proofs.Blocking.{after_none, after_some}
use Rattle.std.proofs.Common.{rules}
use Rattle.checker.proofs.steps.pend_after.Goals as goal

pub returns-then-rest-eq0-clause-pends : goal.returns-then-rest-eq0-clause-pends
returns-then-rest-eq0-clause-pends c = search (after_none, rules)

pub returns-clause-pends : goal.returns-clause-pends
returns-clause-pends c = search (after_some, rules)
