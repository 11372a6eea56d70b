use borrow.Author.Rules.{rules}
use Rattle.indexing.proofs.Listing.{gather_lists}
use Rattle.indexing.proofs.index.gather.Goals as goal

pub loop-place-preserved : goal.loop-place-preserved
loop-place-preserved c = record {
  even = search rules;
  listed = gather_lists c.loop-place.invariant.listed c.low_half.ensures (search rules) (search rules) (search rules) (search rules);
}
