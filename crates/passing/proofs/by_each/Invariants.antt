use Rattle.blockers.specs.Tables.{held_in}
use Rattle.passing.proofs.States.{StatesTried}
use Rattle.passing.proofs.by_each.Given as goal

abbrev pub invariant-loop-q : goal.invariant-loop-q
invariant-loop-q l = StatesTried l.pending.image.now (held_in l.pending.blockers.now) l.pending.below.0 l.pending.x l.q-end l.q l.y
