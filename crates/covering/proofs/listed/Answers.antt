use borrow.Author.Rules.{rules}
use Rattle.covering.proofs.Covering.{listed_unbegun, listed_unended, listed_found}
use Rattle.covering.proofs.listed.Goals as goal

pub returns-in_err-from : goal.returns-in_err-from
returns-in_err-from c = search (listed_unbegun, rules)

pub returns-in_err-to : goal.returns-in_err-to
returns-in_err-to c = search (listed_unended, rules)

pub returns : goal.returns
returns c = search (listed_found, rules)
