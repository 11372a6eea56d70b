use borrow.Author.Rules.{rules}
use Rattle.passing.proofs.Passing.{all_ends}
use Rattle.growing.proofs.Settles.{settle_told, settle_same, settle_goes, settle_fails}
use Rattle.growing.proofs.trying.all_settled.Goals as goal

pub settled_anew-requires-clause-told : goal.settled_anew-requires-clause-told
settled_anew-requires-clause-told c = search (settle_told, rules)

pub settled_anew-requires-clause-known : goal.settled_anew-requires-clause-known
settled_anew-requires-clause-known c = search (settle_same, rules)

pub returns-then-not-settled_anew : goal.returns-then-not-settled_anew
returns-then-not-settled_anew c = search (settle_fails, rules)

pub loop-s-preserved : goal.loop-s-preserved
loop-s-preserved c = search (settle_goes, rules)

pub returns : goal.returns
returns c = search (all_ends, rules)
