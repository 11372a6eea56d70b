use borrow.Author.Rules.{rules}
use Rattle.emptiness.proofs.Reports.{report_refused, report_run}
use Rattle.emptiness.proofs.report.Goals as goal

pub returns-in_default-clause-bytes : goal.returns-in_default-clause-bytes
returns-in_default-clause-bytes c = search (report_refused, rules)

pub returns-clause-bytes : goal.returns-clause-bytes
returns-clause-bytes c = search (report_run, rules)
