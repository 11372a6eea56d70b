use mathlib.Core.Path.{sym, ap, ◌∙◌}
use Rattle.lists.proofs.Tests.{choose_true, choose_false}
use Rattle.checker.specs.Stage.{number_of_answer}
use Rattle.checker.proofs.Closing.{close_leaves}
use Rattle.checker.proofs.steps.close_level.Goals.{then-closed, else-closed}
use Rattle.checker.proofs.steps.close_level.Goals as goal

pub returns-clause-closed : goal.returns-clause-closed
returns-clause-closed c = elim c.if-closed.branch [
  | then-closed w ↦
      close_leaves c.close-closed.ensures.closes (ap number_of_answer w.answer-is ∙ sym (choose_true 0 6 w.if-closed.true)) c.counted.ensures
  | else-closed w ↦
      close_leaves c.close-closed.ensures.closes (ap number_of_answer w.answer-is ∙ sym (choose_false 0 6 w.if-closed.false)) c.counted.ensures
]
