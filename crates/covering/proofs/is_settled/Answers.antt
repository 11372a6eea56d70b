use Rattle.std.specs.Prelude.{option_copied}
use mathlib.Core.Path.{ap}
use borrow.Author.Rules.{rules}
use Rattle.passing.proofs.Blocking.{settled_inside, settled_told}
use Rattle.covering.proofs.Covering.{settled_listed}
use Rattle.covering.proofs.is_settled.Goals as goal

pub returns-then-subset : goal.returns-then-subset
returns-then-subset c = search (settled_inside, rules)

pub returns-in-Some : goal.returns-in-Some
returns-in-Some c = search (settled_listed, c.requires c.in-Some.list.now (ap option_copied c.in-Some.is), rules)

pub returns-in-None : goal.returns-in-None
returns-in-None c = search (settled_told, rules)
