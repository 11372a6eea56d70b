use borrow.Author.Rules.{rules}
use mathlib.Core.Path.{◌≡◌}
use Rattle.lists.specs.Tests.{◌and◌, neg}
use Rattle.masks.specs.Sets.{subset}
use Rattle.passing.proofs.Passing.{second_asked, second_unasked, not_means, tests_before, pass_settled, pass_untested}
use Rattle.passing.proofs.passes.Goals.{then-subset, else-subset, then-not-subset, else-not-subset}
use Rattle.passing.proofs.passes.Goals as goal

pub returns-then-within : goal.returns-then-within
returns-then-within c =
    let head = c.head-head.result in
    let two : c.if-subset.value ≡ (subset c.args.pending.now.x c.args.y and neg (subset head.initial c.args.y)) =
    elim c.if-subset.branch [
      | then-subset w ↦ second_asked _ _ c.subset.ensures w.if-subset.true w.value-is (not_means _ w.subset-then-subset.ensures)
      | else-subset w ↦ second_unasked _ _ c.subset.ensures w.if-subset.false w.value-is
    ] in
    let three : c.if-not-subset.value ≡ tests_before head c.args.pending.now.x c.args.y =
    elim c.if-not-subset.branch [
      | then-not-subset w ↦ second_asked _ _ two w.if-not-subset.true w.value-is w.within.ensures
      | else-not-subset w ↦ second_unasked _ _ two w.if-not-subset.false w.value-is
    ] in
    search (pass_settled, three, rules)

pub returns-else-within : goal.returns-else-within
returns-else-within c =
    let head = c.head-head.result in
    let two : c.if-subset.value ≡ (subset c.args.pending.now.x c.args.y and neg (subset head.initial c.args.y)) =
    elim c.if-subset.branch [
      | then-subset w ↦ second_asked _ _ c.subset.ensures w.if-subset.true w.value-is (not_means _ w.subset-then-subset.ensures)
      | else-subset w ↦ second_unasked _ _ c.subset.ensures w.if-subset.false w.value-is
    ] in
    let three : c.if-not-subset.value ≡ tests_before head c.args.pending.now.x c.args.y =
    elim c.if-not-subset.branch [
      | then-not-subset w ↦ second_asked _ _ two w.if-not-subset.true w.value-is w.within.ensures
      | else-not-subset w ↦ second_unasked _ _ two w.if-not-subset.false w.value-is
    ] in
    search (pass_untested, three, rules)
