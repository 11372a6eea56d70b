use mathlib.Core.Path.{ap, ◌∙◌}
use borrow.Author.Rules.{rules}
use Rattle.blockers.specs.Tables.{room_in}
use Rattle.blockers.proofs.Closing.{close_starts, close_leaves, close_stands, close_stays, close_ends}
use Rattle.blockers.proofs.room.BlockerRoom.close_up.Goals as goal
use Rattle.blockers.proofs.room.BlockerRoom.close_up.Goals.{then-kept-i, else-kept-i}

pub loop-i-init : goal.loop-i-init
loop-i-init c = search (close_starts, rules)

pub loop-i-preserved-then-covers : goal.loop-i-preserved-then-covers
loop-i-preserved-then-covers c = search (close_leaves c.loop-i.invariant.0, rules)

-- one that stays goes to the next place, or stands there already
pub loop-i-preserved : goal.loop-i-preserved
loop-i-preserved c =
    let walk = c.loop-i.invariant.0 in
    elim c.if-kept-i.branch [
      | then-kept-i w ↦ (
        close_stays walk c.covers.result c.loop-i-test.true c.covers.ensures c.if-covers.false (ap room_in w.self-is ∙ w.put.ensures.put),
        search rules,
      )
      | else-kept-i w ↦ (
        close_stands walk c.covers.result c.loop-i-test.true c.covers.ensures c.if-covers.false (ap room_in w.self-is) w.if-kept-i.false,
        search rules,
      )
    ]

pub returns-clause-closed : goal.returns-clause-closed
returns-clause-closed c = search (close_ends c.loop-i.invariant.0, rules)
