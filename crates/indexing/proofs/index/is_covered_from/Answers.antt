use borrow.Author.Rules.{rules}
use Rattle.indexing.proofs.Listing.{rest_finds, rest_goes, rest_ends}
use Rattle.indexing.proofs.index.is_covered_from.Goals as goal

pub returns-then-covers_at : goal.returns-then-covers_at
returns-then-covers_at c = search (rest_finds, rules)

pub loop-place-preserved : goal.loop-place-preserved
loop-place-preserved c = search (rest_goes, rules)

pub returns : goal.returns
returns c = search (rest_ends, rules)
