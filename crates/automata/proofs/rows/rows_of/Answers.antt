use Rattle.automata.proofs.RowWalks.{pair_readable, symbol_span, span_rows, span_first, span_last}
use borrow.Author.Rules.{rules}
use Rattle.automata.proofs.rows.rows_of.Goals as goal

pub offset_of-start-requires : goal.offset_of-start-requires
offset_of-start-requires c = rw c.bytes-bytes.ensures.0 (search (pair_readable, rules))

pub size_of-requires : goal.size_of-requires
size_of-requires c = rw c.bytes-bytes.ensures.0 (search (pair_readable, rules))

pub returns : goal.returns
returns c =
    let offset = rw c.bytes-bytes.ensures.0 at c.offset_of-start.ensures in
    let size = rw c.bytes-bytes.ensures.0 at c.size_of.ensures in
    search (symbol_span, span_rows, span_first, span_last, offset, size, rules)
