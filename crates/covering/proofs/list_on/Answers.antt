use borrow.Author.Rules.{rules}
use Rattle.covering.proofs.Covering.{list_nowhere, listing_starts, listing_goes, listing_full, listing_ends}
use Rattle.covering.proofs.list_on.Goals as goal

pub returns-in_err-end : goal.returns-in_err-end
returns-in_err-end c = search (list_nowhere, c.in_err-end.was, rules)

pub loop-i-init : goal.loop-i-init
loop-i-init c = search (listing_starts, rules)

pub returns-in_err-end-2 : goal.returns-in_err-end-2
returns-in_err-end-2 c = search (listing_full, c.in_ok-end.was, rules)

pub loop-i-preserved : goal.loop-i-preserved
loop-i-preserved c = search (listing_goes, c.in_ok-end-2.was, rules)

pub returns : goal.returns
returns c = search (listing_ends, c.in_ok-end.was, rules)
