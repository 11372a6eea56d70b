use mathlib.Core.Path.{refl, ◌∙◌}
use native.Mathlib.Nat.{sub-zero}
use Rattle.std.proofs.Common.{rules, tests}
use Rattle.std.proofs.lemmas.Iterator.{YieldsList-from_range}
use Rattle.std.proofs.lemmas.Iterator.Search.{all_from_yields_List}
use Rattle.automata.specs.Image.{row_holds, rows_hold}
use Rattle.automata.proofs.Checks.{each_listed}
use Rattle.automata.proofs.image.rows_hold.Goals as goal

pub returns : goal.returns
unfolding rows_hold
returns c =
    all_from_yields_List (row_holds c.args.image.now) _ _ _ c.all.ensures.ran (YieldsList-from_range 0 _ _ refl (sub-zero _)) (λ x b q k. search (rules, tests))
    ∙ each_listed (row_holds c.args.image.now) _ 0
    ∙ rw (c.from-rows.ensures, c.read2.ensures) refl
