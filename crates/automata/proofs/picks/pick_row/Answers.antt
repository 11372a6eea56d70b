use Rattle.masks.specs.Sets.{union}
use Rattle.automata.proofs.PickWalks.{row_late, row_outside, row_picked}
use borrow.Author.Rules.{rules}
use Rattle.automata.proofs.picks.pick_row.Goals as goal

pub returns-then-not-absent : goal.returns-then-not-absent
returns-then-not-absent c = search (row_late, rules)

pub returns-then-not-subset : goal.returns-then-not-subset
returns-then-not-subset c = search (row_outside, rules)

pub returns : goal.returns
unfolding union
returns c = search (row_picked, rules)
