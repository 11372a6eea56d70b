use borrow.Author.Rules.{rules}
use Rattle.indexing.proofs.Listing.{seek_finds, seek_goes, seek_ends}
use Rattle.indexing.proofs.index.is_covered.Goals as goal

pub returns-then-covers_at : goal.returns-then-covers_at
returns-then-covers_at c = seek_finds c.loop-i.invariant c.low_half.ensures c.in-Some.ensures (search rules) c.covers_at.ensures (search rules)

pub loop-i-preserved : goal.loop-i-preserved
loop-i-preserved c = seek_goes c.loop-i.invariant c.low_half.ensures c.in-Some.ensures (search rules) c.covers_at.ensures (search rules)

pub returns : goal.returns
returns c = seek_ends c.loop-i.invariant c.low_half.ensures (search rules) c.is_covered_from.ensures
