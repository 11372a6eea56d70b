use Rattle.std.proofs.Common.{rules, tests}
use Rattle.std.proofs.lemmas.Iterator.{YieldsList-from_slice}
use Rattle.std.proofs.lemmas.Iterator.Search.{any_from_yields_List}
use mathlib.Core.Path.{◌∙◌}
use Rattle.masks.specs.Sets.{subset}
use Rattle.covering.proofs.Covering.{one_of}
use Rattle.covering.proofs.one_contains.Goals as goal

pub returns : goal.returns
returns c =
    any_from_yields_List (subset c.args.p) _ _ _ c.any.ensures.ran (YieldsList-from_slice c.args.list.now cc) (λ x b q k. search (rules, tests))
    ∙ one_of c.args.list.now c.args.p
