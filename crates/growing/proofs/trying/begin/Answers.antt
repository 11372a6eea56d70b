use borrow.Author.Rules.{rules}
use Rattle.growing.proofs.Begins.{first_starts, first_bottom, symbol_within, first_ends, first_told, first_goes}
use Rattle.growing.proofs.trying.begin.Goals as goal

pub loop-s-init : goal.loop-s-init
loop-s-init c = search (first_starts, first_bottom, rules)

pub bounds-lists-place : goal.bounds-lists-place
bounds-lists-place c = search (symbol_within, rules)

pub is_settled-requires : goal.is_settled-requires
is_settled-requires c = search (first_told, rules)

pub loop-s-preserved : goal.loop-s-preserved
loop-s-preserved c = search (first_goes, rules)

pub returns : goal.returns
returns c = search (first_ends, rules)
