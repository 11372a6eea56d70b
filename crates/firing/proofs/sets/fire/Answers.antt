use borrow.Author.Rules.{rules}
use Rattle.firing.proofs.Fires.{fire_known, fire_first, fire_starts, fire_symbol, fire_low, fire_link, fire_stands, fire_place, fire_nearer, fire_goes, fire_ends}
use Rattle.firing.proofs.sets.fire.Goals as goal

pub insert-more-requires : goal.insert-more-requires
insert-more-requires c = search (fire_known, rules)

pub told-number-requires : goal.told-number-requires
told-number-requires c = search (fire_first, rules)

pub loop-number-init : goal.loop-number-init
loop-number-init c = search (fire_starts, rules)

pub bounds-symbols-row : goal.bounds-symbols-row
bounds-symbols-row c = search (fire_symbol, rules)

pub place_of-requires : goal.place_of-requires
place_of-requires c = search (fire_low, rules)

pub bounds-sets-symbol : goal.bounds-sets-symbol
bounds-sets-symbol c = search (fire_place, rules)

pub with_row-requires : goal.with_row-requires
with_row-requires c = search (fire_stands, rules)

pub told-number-requires-in-Some : goal.told-number-requires-in-Some
told-number-requires-in-Some c = search (fire_link, rules)

pub loop-number-smaller : goal.loop-number-smaller
loop-number-smaller c = search (fire_nearer, rules)

pub loop-number-preserved : goal.loop-number-preserved
loop-number-preserved c = search (fire_goes, rules)

pub returns : goal.returns
returns c = search (fire_ends, rules)
