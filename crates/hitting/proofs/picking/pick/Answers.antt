use Rattle.hitting.proofs.Picks.{picks_start, picks_done, picks_go, picks_end}
use borrow.Author.Rules.{rules}
use Rattle.hitting.proofs.picking.pick.Goals as goal

pub loop-turn-init : goal.loop-turn-init
loop-turn-init c = search (picks_start, rules)

pub returns-then-left-eq0 : goal.returns-then-left-eq0
returns-then-left-eq0 c = search (picks_done, rules)

pub loop-turn-preserved : goal.loop-turn-preserved
loop-turn-preserved c = search (picks_go, rules)

pub returns : goal.returns
returns c = search (picks_end, rules)
