use Rattle.std.proofs.Common.{rules, arith}
use mathlib.Core.Path.{◌∙◌}
use Rattle.checker.proofs.Checking.{refused_from_20}
use Rattle.checker.proofs.Records.{answer_low}
use Rattle.exports.proofs.Calls.{step_read, refused_gave, made_gave, finished_gave}
use Rattle.exports.proofs.afa_step.Goals.{then-before-eq6, else-before-eq6}
use Rattle.exports.proofs.afa_step.Goals as goal

pub returns-in-Err : goal.returns-in-Err
returns-in-Err c =
    let e = step_read _ _ _ _ _ c.record_from-kept.ensures c.in-Err.ensures.stepped in
    refused_gave _ e c.from.ensures (rw c.from.ensures (refused_from_20 c.in-Err.refusal)) (search rules)

pub returns-after-before-eq6 : goal.returns-after-before-eq6
returns-after-before-eq6 c =
    let e = step_read _ _ _ _ _ c.record_from-kept.ensures c.in-Ok.ensures.stepped in
    elim c.if-before-eq6.branch [
      | then-before-eq6 w ↦
          made_gave _ e c.from-in-Ok.ensures (omega (arith, c.from-in-Ok.ensures, answer_low c.in-Ok.answer)) w.if-before-eq6.true
          (w.numbers-is ∙ w.numbers_of.ensures) (search rules)
      | else-before-eq6 w ↦ finished_gave _ e c.from-in-Ok.ensures w.if-before-eq6.false w.numbers-is (search rules)
    ]
