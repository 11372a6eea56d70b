use mathlib.Core.Path.{ap₂}
use Rattle.machine.specs.Lent.{blockers_in}
use Rattle.checker.specs.Stage.{terms_given}
use Rattle.checker.proofs.Blocking.{block_is}
use Rattle.checker.proofs.steps.block.Goals as goal

pub returns-clause-blocked : goal.returns-clause-blocked
returns-clause-blocked c =
    let part = ap₂ blockers_in c.held-blockers.ensures.masks c.held-blockers.ensures.levels in
    block_is _ c.requires.0 (terms_given c.args.given.now) _ _ _ part (rw c.from.ensures at c.choose_set-choice.ensures) c.enter_chosen.ensures.entered
