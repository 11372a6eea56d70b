use Rattle.hitting.proofs.Gathers.{row_stands, next_room, rows_go, rows_end, rows_over}
use borrow.Author.Rules.{rules}
use Rattle.hitting.proofs.gathering.Gathering.add_rows.Goals as goal

pub add_row-requires : goal.add_row-requires
add_row-requires g c = search (row_stands, next_room, rules)

pub loop-at-preserved : goal.loop-at-preserved
loop-at-preserved g c = search (rows_go, rules)

pub returns : goal.returns
returns g c = search (rows_end, rules)

pub returns-2 : goal.returns-2
returns-2 g c = search (rows_over, rules)
