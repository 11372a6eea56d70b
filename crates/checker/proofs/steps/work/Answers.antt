use mathlib.Core.Path.{ap₂}
use Rattle.machine.specs.Lent.{blockers_in}
use Rattle.checker.specs.Stage.{terms_given}
use Rattle.checker.proofs.Stages.{ready_word}
use Rattle.checker.proofs.Working.{work_blocks, pend_room, work_extends}
use Rattle.checker.proofs.steps.work.Goals as goal

pub returns-in_default-clause-worked : goal.returns-in_default-clause-worked
returns-in_default-clause-worked c =
    let part = ap₂ blockers_in c.held-blockers.ensures.masks c.held-blockers.ensures.levels in
    work_blocks _ c.requires.0 c.requires.1 (terms_given c.args.given.now) part c.first_symbol.ensures c.in_default.is c.block.ensures.blocked

pub extend-requires : goal.extend-requires
extend-requires c =
    let part = ap₂ blockers_in c.held-blockers.ensures.masks c.held-blockers.ensures.levels in
    (ready_word c.requires.0, c.requires.1, c.requires.2, pend_room _ c.requires.0 c.requires.1 (terms_given c.args.given.now) part c.first_symbol.ensures _ _ c.in-Some.is)

pub returns-clause-worked : goal.returns-clause-worked
returns-clause-worked c =
    let part = ap₂ blockers_in c.held-blockers.ensures.masks c.held-blockers.ensures.levels in
    work_extends _ c.requires.0 c.requires.1 (terms_given c.args.given.now) part c.first_symbol.ensures _ _ c.in-Some.is c.extend.ensures.extended
