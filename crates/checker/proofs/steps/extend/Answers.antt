use Rattle.checker.proofs.Working.{extend_finds, extend_pends}
use Rattle.std.proofs.Common.{rules}
use Rattle.checker.proofs.steps.extend.Goals as goal

pub returns-then-subset-clause-extended : goal.returns-then-subset-clause-extended
returns-then-subset-clause-extended c = search (extend_finds, rules)

pub returns-clause-extended : goal.returns-clause-extended
returns-clause-extended c = search (extend_pends, rules)
