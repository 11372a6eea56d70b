use Rattle.probes.proofs.Walks.{number_refused, places_refused, symbol_known, number_unknown, places_unknown, number_known, places_known}
use borrow.Author.Rules.{rules}
use Rattle.probes.proofs.afa_walk.Goals as goal

pub returns-in-Err : goal.returns-in-Err
returns-in-Err c = record { number = rw c.from.ensures (search (number_refused, rules)); values = search (places_refused, rules) }

pub returns-then-from-symbol : goal.returns-then-from-symbol
returns-then-from-symbol c = record { number = rw c.from-then-from-symbol.ensures (search (number_unknown, c.in-Ok.ensures, rules)); values = search (places_unknown, c.in-Ok.ensures, rules) }

pub backward-found-requires : goal.backward-found-requires
backward-found-requires c = search (symbol_known, c.in-Ok.ensures, rules)

pub returns-else-from-symbol : goal.returns-else-from-symbol
returns-else-from-symbol c = record { number = search (number_known, c.in-Ok.ensures, rules); values = search (places_known, c.in-Ok.ensures, rules) }
