use Rattle.checker.proofs.Stepping.{step_stops, step_works, step_closes, step_opens}
use Rattle.checker.proofs.steps.working_step.Goals as goal

pub returns-then-given-run-clause-stepped : goal.returns-then-given-run-clause-stepped
returns-then-given-run-clause-stepped c = step_stops _ c.requires _ c.if-given-run.true c.stop.ensures.left

pub returns-then-run-gt0-clause-stepped : goal.returns-then-run-gt0-clause-stepped
returns-then-run-gt0-clause-stepped c = step_works _ c.requires _ c.if-given-run.false c.work.ensures.worked

pub returns-then-run-clause-stepped : goal.returns-then-run-clause-stepped
returns-then-run-clause-stepped c = step_closes _ c.requires _ c.if-given-run.false c.if-run-gt0.false c.if-run.true c.close_level.ensures.closed

pub returns-clause-stepped : goal.returns-clause-stepped
returns-clause-stepped c = step_opens _ c.requires _ c.if-given-run.false c.if-run-gt0.false c.if-run.false c.open_level.ensures.opened
