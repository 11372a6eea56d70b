use borrow.Author.Rules.{rules}
use Rattle.closing.proofs.Vacant.{marking_starts, marking_passes, marking_marks}
use Rattle.closing.proofs.vacancy.marked.Goals as goal

pub loop-level-init : goal.loop-level-init
loop-level-init c = marking_starts _

pub loop-level-preserved-then-place-ge-MARKS : goal.loop-level-preserved-then-place-ge-MARKS
loop-level-preserved-then-place-ge-MARKS c = search (marking_passes, rules)

pub loop-level-preserved : goal.loop-level-preserved
loop-level-preserved c = search (marking_marks, rules)
