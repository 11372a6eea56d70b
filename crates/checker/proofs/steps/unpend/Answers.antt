use Rattle.checker.specs.Stage.{record_in}
use Rattle.checker.proofs.Stages.{held_is}
use Rattle.checker.proofs.Blocking.{popped_room, unpend_is}
use Rattle.checker.proofs.steps.unpend.Goals as goal

pub pend_after-pending-requires : goal.pend_after-pending-requires
pend_after-pending-requires c = popped_room c.requires.1 c.requires.2 c.pop.ensures.room

pub returns-clause-unpends : goal.returns-clause-unpends
returns-clause-unpends c =
    let held = held_is c.requires.0 c.held.ensures.masks c.held.ensures.levels in
    unpend_is _ _ _ _ _ _ _ _ (record_in c.args.run) _ _ _ held c.pop.ensures.room c.pend_after-pending.ensures.pends (record_in c.blocked.result)
    c.blocked.ensures
