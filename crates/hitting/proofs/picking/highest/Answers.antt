use Rattle.std.proofs.iter.runs.Made.{chains}
use Rattle.std.specs.List.{fold}
use Rattle.std.specs.Prelude.{◌≡◌, reverse}
use mathlib.Core.Path.{◌∙◌}
use Rattle.hitting.specs.Sets.{narrowed}
use Rattle.hitting.proofs.Planes.{highest_folded}
use borrow.Author.Rules.{rules}
use Rattle.hitting.proofs.picking.highest.Goals as goal

pub returns : goal.returns
returns c =
    let e : c.fold.result ≡ fold narrowed c.args.states (reverse c.args.planes.now) = search (rules, chains) in
    e ∙ highest_folded c.args.states c.args.planes.now
