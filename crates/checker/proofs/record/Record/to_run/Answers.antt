use Rattle.std.proofs.Common.{rules, ◌≡◌, Err}
use mathlib.Core.Path.{ap, ◌∙◌}
use Rattle.automata.proofs.Chained.{checks}
use Rattle.machine.specs.Records.{broken}
use Rattle.checker.specs.Calls.{number_checked}
use Rattle.checker.proofs.Records.{answer_known, answer_unknown, answer_refused}
use Rattle.checker.proofs.record.Record.to_run.Goals.{then-blockers-self-via-then-blockers-self, then-blockers-self-via-else-blockers-self+then-word-self, then-blockers-self-via-else-blockers-self+else-word-self+then-self, then-blockers-self-via-else-blockers-self+else-word-self+else-self+then-self-2, then-blockers-self-via-else-blockers-self+else-word-self+else-self+else-self-2+then-self-3}
use Rattle.checker.proofs.record.Record.to_run.Goals as goal

pub returns-in_err-answer-clause-number : goal.returns-in_err-answer-clause-number
unfolding broken
returns-in_err-answer-clause-number c =
    let unknown = answer_unknown c.in_err-answer.field-0.0 c.args.self.answer (search rules) in
    let is : c.from_residual.result ≡ Err c.in_err-answer.field-0.0 = search rules in
    ap number_checked is ∙ answer_refused _ c.args.self.answer (search rules) ∙ search checks depth 9

pub returns-then-blockers-self-clause-number : goal.returns-then-blockers-self-clause-number
unfolding broken
returns-then-blockers-self-clause-number c = elim c.then-blockers-self.branch [
  | then-blockers-self-via-then-blockers-self w ↦ search checks depth 9
  | then-blockers-self-via-else-blockers-self+then-word-self w ↦ search checks depth 9
  | then-blockers-self-via-else-blockers-self+else-word-self+then-self w ↦ search checks depth 9
  | then-blockers-self-via-else-blockers-self+else-word-self+else-self+then-self-2 w ↦ search checks depth 9
  | then-blockers-self-via-else-blockers-self+else-word-self+else-self+else-self-2+then-self-3 w ↦ search checks depth 9
]

pub returns-clause-number : goal.returns-clause-number
unfolding broken
returns-clause-number c =
    let known = answer_known c.in_ok-answer.answer c.args.self.answer (search rules) in
    search checks depth 9
