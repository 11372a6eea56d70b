use Rattle.checker.specs.Stage.{record_in}
use Rattle.checker.proofs.Stages.{held_is}
use Rattle.checker.proofs.Opening.{open_lacks, open_goes}
use Rattle.checker.proofs.steps.open_level.Goals as goal

pub returns-then-word-run-clause-opened : goal.returns-then-word-run-clause-opened
returns-then-word-run-clause-opened c = open_lacks (record_in c.args.run) _ _ _ c.if-word-run.true c.stop.ensures.left

pub returns-clause-opened : goal.returns-clause-opened
returns-clause-opened c =
    let held = held_is c.requires.0 c.held.ensures.masks c.held.ensures.levels in
    open_goes (record_in c.args.run) _ _ _ _ _ _ _ _ (record_in c.counted.result) held c.if-word-run.false c.requires.3 c.above-next.ensures
    c.pend_final-pending.ensures.pends c.counted.ensures
