use borrow.Author.Rules.{rules}
use mathlib.Core.Path.{◌≡◌, ◌∙◌}
use mathlib.Core.Bool.{true, false, not}
use lib.ListN.{get_or}
use lib.Dec.{eqb}
use Rattle.lists.specs.Tests.{neg}
use Rattle.lists.specs.Lists.{any}
use Rattle.std.proofs.lemmas.Iterator.{first_from_Range}
use Rattle.closing.proofs.Vacancies.{found_first}
use Rattle.closing.proofs.Vacant.{lowest_marked}
use Rattle.closing.proofs.vacancy.lowest_none.Goals as goal

pub returns-then-top-lt-MARKS : goal.returns-then-top-lt-MARKS
returns-then-top-lt-MARKS c =
    found_first (λ j. not (get_or c.marked-marks.result j false)) c.args.top.0 _ _ _
    (first_from_Range _ _ _ _ (λ j. not (get_or c.marked-marks.result j false) ≡ true) (λ j. not (get_or c.marked-marks.result j false) ≡ false)
    c.find.ensures.ran (λ j q called. search rules) (λ j q called. search rules))
    c.map.ensures.cases (λ j level made. search rules)
    ∙ lowest_marked c.marked-marks.ensures c.args.top.0 (search rules)

pub returns : goal.returns
returns c =
    found_first (λ j. neg (any (λ other. eqb other j) c.args.levels.now)) c.args.top.0 _ _ _
    (first_from_Range _ _ _ _ (λ j. neg (any (λ other. eqb other j) c.args.levels.now) ≡ true) (λ j. neg (any (λ other. eqb other j) c.args.levels.now) ≡ false)
    c.find-2.ensures.ran (λ j q called. search rules) (λ j q called. search rules))
    c.map-2.ensures.cases (λ j level made. search rules)
