use borrow.Author.Rules.{rules}
use Rattle.writing.proofs.LinesPut.{first_place, first_bytes, later_place, later_bytes}
use Rattle.writing.proofs.put_next.Goals as goal

pub returns-then-place-eq0 : goal.returns-then-place-eq0
returns-then-place-eq0 c = record { place = search (first_place, rules); near = search rules; bytes = search (first_bytes, rules) }

pub returns : goal.returns
returns c = record { place = search (later_place, rules); near = search rules; bytes = search (later_bytes, rules) }
