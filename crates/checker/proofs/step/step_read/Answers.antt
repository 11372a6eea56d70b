use Rattle.std.proofs.Common.{rules, arith}
use mathlib.Core.Path.{refl, sym, ap, ◌∙◌}
use Rattle.automata.specs.Image.{check}
use Rattle.machine.specs.Runs.{RunRecord, rooms_of}
use Rattle.machine.specs.Records.{broken}
use Rattle.machine.proofs.RunsKept.{checked}
use Rattle.checker.specs.Stage.{lent_in}
use Rattle.checker.specs.Calls.{stage_as}
use Rattle.checker.proofs.Records.{answer_low, answer_works, answer_ended}
use Rattle.checker.proofs.Calling.{run_refuses_step, record_checked, step_refuses, step_goes, step_stays, step_ready, made_alike}
use Rattle.checker.proofs.step.step_read.Goals as goal

pub returns-in_err-image-clause-stepped : goal.returns-in_err-image-clause-stepped
returns-in_err-image-clause-stepped c =
    step_refuses _ _ _ c.in_err-image.field-0.0 (run_refuses_step _ _ _ c.in_err-image.field-0.0 (sym c.in_err-image.ensures.number))
    c.args.before refl (search rules)

pub to_run-requires : goal.to_run-requires
to_run-requires c = (checked _ _ _ (sym c.in_ok-image.ensures.number)).few_places

pub returns-in_err-run-clause-stepped : goal.returns-in_err-run-clause-stepped
returns-in_err-run-clause-stepped c =
    step_refuses _ _ _ c.in_err-run.field-0.0 (record_checked _ _ _ (sym c.in_ok-image.ensures.number) c.in_err-run.ensures.number)
    c.args.before refl (search rules)

pub working_step-requires : goal.working_step-requires
working_step-requires c =
    step_ready _ _ (sym c.in_ok-image.ensures.number)
    (c.in_ok-run.ensures.number
    ∙ ap (λ (run : RunRecord). check (broken (rooms_of (lent_in c.args.room.now c.args.word.now)) run) 33 0) (sym c.in_ok-run.ensures.run))

pub returns-then-eq-clause-stepped : goal.returns-then-eq-clause-stepped
returns-then-eq-clause-stepped c =
    let same = c.in_ok-run.ensures.run in
    let none = record_checked _ _ (stage_as c.args.room.now c.args.word.now c.args.before) (sym c.in_ok-image.ensures.number) c.in_ok-run.ensures.number in
    let made = made_alike _ c.in_ok-image.ensures.image c.in_ok-image.ensures.given c.working_step.ensures.stepped in
    step_goes _ _ _ none (sym (ap (λ (run : RunRecord). run.answer) same) ∙ answer_works _ c.if-eq.ensures) (rw same at made)

pub returns-clause-stepped : goal.returns-clause-stepped
returns-clause-stepped c =
    let same = c.in_ok-run.ensures.run in
    let at = stage_as c.args.room.now c.args.word.now c.args.before in
    let none = record_checked _ _ at (sym c.in_ok-image.ensures.number) c.in_ok-run.ensures.number in
    let answer = ap (λ (run : RunRecord). run.answer) same in
    ap (λ (run : RunRecord). record { number = run.answer; left = record { tables = at.tables; run = run } }) same
    ∙ step_stays _ _ _ none (omega (arith, answer, answer_low c.in_ok-run.run'.answer)) (λ six. answer_ended _ c.if-eq.ensures (answer ∙ six))
