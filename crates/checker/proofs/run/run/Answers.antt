use Rattle.std.proofs.Common.{rules}
use mathlib.Core.Path.{sym, ap, ◌∙◌}
use Rattle.machine.specs.Runs.{RunRecord}
use Rattle.checker.specs.Stage.{record_in}
use Rattle.checker.proofs.Records.{answer_works, answer_ended}
use Rattle.checker.proofs.Starting.{start_steps, starts_alike}
use Rattle.checker.proofs.Calling.{run_refuses, begin_goes, made_alike}
use Rattle.checker.proofs.Going.{goes_starts, goes_ready, goes_again, goes_nearer, goes_ends}
use Rattle.checker.proofs.run.run.Goals as goal

pub returns-in_err-image-clause-ran : goal.returns-in_err-image-clause-ran
returns-in_err-image-clause-ran c = run_refuses _ _ _ c.in_err-image.field-0.0 (sym c.in_err-image.ensures.number) (search rules)

pub loop-image-init : goal.loop-image-init
loop-image-init c =
    let starts = starts_alike c.in_ok-image.ensures.image c.in_ok-image.ensures.given c.start-run.ensures in
    let begun = begin_goes _ _ _ (sym c.in_ok-image.ensures.number) c.clear_rooms.ensures.cleared (record_in c.start-run.result) starts in
    (goes_starts _ _ _ begun (ap (λ (x : RunRecord). x.steps) c.start-run.ensures ∙ start_steps _ _ _), c.clear_rooms.ensures.same_room, c.clear_rooms.ensures.same_word)

pub working_step-run-requires : goal.working_step-run-requires
working_step-run-requires c = goes_ready c.loop-image.invariant.0 (answer_works _ c.loop-image-test.ensures)

pub loop-image-smaller : goal.loop-image-smaller
loop-image-smaller c =
    goes_nearer c.loop-image.invariant.0 (answer_works _ c.loop-image-test.ensures)
    (made_alike _ c.in_ok-image.ensures.image c.in_ok-image.ensures.given c.working_step-run.ensures.stepped)

pub loop-image-preserved : goal.loop-image-preserved
loop-image-preserved c = (
  goes_again c.loop-image.invariant.0 (answer_works _ c.loop-image-test.ensures)
      (made_alike _ c.in_ok-image.ensures.image c.in_ok-image.ensures.given c.working_step-run.ensures.stepped),
  search rules,
  search rules,
)

pub returns-clause-ran : goal.returns-clause-ran
returns-clause-ran c = goes_ends c.loop-image.invariant.0 (answer_ended _ c.loop-image-test.ensures)
