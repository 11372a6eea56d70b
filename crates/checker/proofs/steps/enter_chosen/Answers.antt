use Rattle.checker.proofs.Stages.{ready_word}
use Rattle.checker.proofs.Blocking.{block_full, entered_holds, block_held}
use Rattle.checker.proofs.steps.enter_chosen.Goals as goal

pub returns-in_default-clause-entered : goal.returns-in_default-clause-entered
returns-in_default-clause-entered c = block_full _ _ c.requires.0 _ _ c.above.ensures c.enter.ensures.enters c.in_default.is c.stop.ensures.left

pub unpend-requires : goal.unpend-requires
unpend-requires c =
    ((entered_holds c.requires.0 c.enter.ensures.enters c.in-Some.is).read, ready_word c.requires.0, c.requires.1, c.requires.3)

pub returns-clause-entered : goal.returns-clause-entered
returns-clause-entered c = block_held _ _ c.requires.0 _ _ c.above.ensures c.enter.ensures.enters c.in-Some.is c.unpend.ensures.unpends
