use borrow.Author.Rules.{rules}
use Rattle.growing.proofs.Begins.{place_bottom, place_above}
use Rattle.growing.proofs.trying.first_place.Goals as goal

pub returns-then-eq : goal.returns-then-eq
returns-then-eq c = search (place_bottom, rules)

pub returns : goal.returns
returns c = search (place_above, rules)
