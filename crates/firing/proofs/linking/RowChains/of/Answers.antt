use borrow.Author.Rules.{rules}
use Rattle.firing.proofs.Chaining.{cleared_linked}
use Rattle.firing.proofs.linking.RowChains.of.Goals as goal

pub link_rows-requires : goal.link_rows-requires
link_rows-requires g c = search (cleared_linked, rules)
