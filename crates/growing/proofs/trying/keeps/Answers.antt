use borrow.Author.Rules.{rules}
use Rattle.firing.proofs.Fires.{fire_known}
use Rattle.growing.proofs.Tries.{keeps_initial, keeps_rest, settling}
use Rattle.growing.proofs.trying.keeps.Goals as goal

pub insert-more-requires : goal.insert-more-requires
insert-more-requires g c = search (fire_known, rules)

pub returns-then-subset-clause-passes : goal.returns-then-subset-clause-passes
returns-then-subset-clause-passes g c = search (keeps_initial, rules)

pub all_settled-requires : goal.all_settled-requires
all_settled-requires g c = search (settling, rules)

pub returns-clause-passes : goal.returns-clause-passes
returns-clause-passes g c = search (keeps_rest, rules)
