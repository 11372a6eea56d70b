use native.Mathlib.Omega.{arith}
use Rattle.automata.proofs.RowWalks.{part_stands, three_rows}
use borrow.Author.Rules.{rules}
use Rattle.automata.proofs.backward.with_three.Goals as goal

pub with_row-one-requires : goal.with_row-one-requires
with_row-one-requires c = part_stands 0 1 c.requires (omega arith) (omega arith)

pub with_row-two-requires : goal.with_row-two-requires
with_row-two-requires c = part_stands 1 1 c.requires (omega arith) (omega arith)

pub with_row-three-requires : goal.with_row-three-requires
with_row-three-requires c = part_stands 2 1 c.requires (omega arith) (omega arith)

pub returns : goal.returns
returns c = search (three_rows, rules)
