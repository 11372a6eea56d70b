use Rattle.blockers.proofs.Changes.{rise_room, rise_behind, rises_at}
use borrow.Author.Rules.{rules}
use Rattle.blockers.proofs.room.BlockerRoom.rise.Goals as goal

pub put-requires : goal.put-requires
put-requires c = rise_room c.requires c.above-level.ensures c.close_up-stands.ensures.closed

pub close_up-end-requires : goal.close_up-end-requires
close_up-end-requires c =
    (search rules, search rules, rise_behind c.requires c.above-level.ensures c.close_up-stands.ensures.closed _ c.put.ensures.put)

pub returns-clause-rises : goal.returns-clause-rises
returns-clause-rises c =
    rises_at c.requires c.above-level.ensures c.close_up-stands.ensures.closed c.put.ensures.put c.close_up-end.ensures.closed
