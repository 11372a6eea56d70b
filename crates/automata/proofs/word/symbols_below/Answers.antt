use lib.Dec.{ltb}
use Rattle.std.proofs.Common.{rules, tests}
use Rattle.std.proofs.lemmas.Iterator.{YieldsList-from_slice}
use Rattle.std.proofs.lemmas.Iterator.Search.{all_from_yields_List}
use mathlib.Core.Path.{◌∙◌}
use Rattle.automata.specs.WordTest.{known}
use Rattle.automata.proofs.WordTests.{all_listed}
use Rattle.automata.proofs.word.symbols_below.Goals as goal

pub returns : goal.returns
unfolding known
returns c =
    all_from_yields_List (λ s. ltb s c.args.symbols) _ _ _ c.all.ensures.ran (YieldsList-from_slice c.args.word.now cc) (λ x b q k. search (rules, tests))
    ∙ all_listed (λ s. ltb s c.args.symbols) c.args.word.now
