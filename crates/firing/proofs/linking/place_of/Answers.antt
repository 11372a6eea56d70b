use borrow.Author.Rules.{rules}
use Rattle.firing.proofs.Chaining.{place_is}
use Rattle.firing.proofs.linking.place_of.Goals as goal

pub returns : goal.returns
returns c = search (place_is, rules)
