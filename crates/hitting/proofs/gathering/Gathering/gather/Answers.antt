use Rattle.hitting.proofs.Gathers.{first_room, symbols_start, symbol_known, symbols_room, symbols_go, symbols_end}
use borrow.Author.Rules.{rules}
use Rattle.hitting.proofs.gathering.Gathering.gather.Goals as goal

pub add-requires : goal.add-requires
add-requires g c = search (first_room, rules)

pub loop-s-init : goal.loop-s-init
loop-s-init g c = search (symbols_start, rules)

pub add_symbol-requires : goal.add_symbol-requires
add_symbol-requires g c = search (symbol_known, symbols_room, rules)

pub loop-s-preserved : goal.loop-s-preserved
loop-s-preserved g c = search (symbols_go, rules)

pub returns : goal.returns
returns g c = search (symbols_end, rules)
