use Rattle.checker.specs.Stage.{record_in}
use Rattle.checker.proofs.Starting.{start_works, start_final, start_final_second}
use Rattle.checker.proofs.begin.start.Goals as goal

pub returns-then-not-subset : goal.returns-then-not-subset
returns-then-not-subset c = start_works _ c.head-head.ensures _ _ c.subset.ensures (record_in c.begun.result) c.if-not-subset.true c.begun.ensures

pub returns-in-First : goal.returns-in-First
returns-in-First c =
    start_final _ c.head-head.ensures _ _ c.subset.ensures (record_in c.begun-in-First.result) c.if-not-subset.false c.in-First.is c.begun-in-First.ensures

pub returns-in-Second : goal.returns-in-Second
returns-in-Second c =
    start_final_second _ c.head-head.ensures _ _ c.subset.ensures (record_in c.begun-in-Second.result) c.if-not-subset.false c.in-Second.is
    c.begun-in-Second.ensures
