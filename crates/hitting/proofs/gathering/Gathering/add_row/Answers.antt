use Rattle.hitting.proofs.Gathers.{row_inside, row_room, row_outside}
use borrow.Author.Rules.{rules}
use Rattle.hitting.proofs.gathering.Gathering.add_row.Goals as goal

pub add-requires : goal.add-requires
add-requires g c = search (row_room, rules)

pub returns-then-not-member : goal.returns-then-not-member
returns-then-not-member g c = search (row_outside, rules)

pub returns-else-not-member : goal.returns-else-not-member
returns-else-not-member g c = search (row_inside, rules)
