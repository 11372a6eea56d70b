use borrow.Author.Rules.{rules}
use Rattle.emptiness.proofs.Reports.{written_within, written_long}
use Rattle.emptiness.proofs.main.Goals as goal

pub slice_bounds-room-end : goal.slice_bounds-room-end
slice_bounds-room-end c = search (written_within, rules)

pub slice_bounds-write_all-end : goal.slice_bounds-write_all-end
slice_bounds-write_all-end c = search (written_long, rules)
