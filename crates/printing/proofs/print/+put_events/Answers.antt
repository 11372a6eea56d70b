use borrow.Author.Rules.{rules}
use Rattle.printing.proofs.SetsBehind.{first_part, last_part, first_shorter, last_shorter}
use Rattle.printing.proofs.Lines.{word_put, parts_put}
use Rattle.printing.proofs.print.+put_events.Goals as goal

pub returns-then-word-table : goal.returns-then-word-table
returns-then-word-table t c = search (word_put, rules)

pub taken_back-middle-requires : goal.taken_back-middle-requires
taken_back-middle-requires t c = search (last_part, rules)

pub put_events-first-requires : goal.put_events-first-requires
put_events-first-requires t c = (search (first_shorter, rules), search (first_part, rules))

pub put_events-requires : goal.put_events-requires
put_events-requires t c = (search (last_shorter, rules), (search (last_part, rules), search rules, search rules))

pub returns : goal.returns
returns t c = search (parts_put, rules)
