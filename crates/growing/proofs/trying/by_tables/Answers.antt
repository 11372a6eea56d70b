use borrow.Author.Rules.{rules}
use Rattle.growing.proofs.Begins.{rows_most}
use Rattle.growing.proofs.trying.by_tables.Goals as goal

pub by_chains-requires-2 : goal.by_chains-requires-2
by_chains-requires-2 c = (search (rows_most, rules), search rules, search rules)
