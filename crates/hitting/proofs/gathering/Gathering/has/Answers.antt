use Rattle.hitting.proofs.Linking.{looking_starts, looking_ends, told_below, told_linked, looking_found, looking_nearer, looking_goes}
use borrow.Author.Rules.{rules}
use Rattle.hitting.proofs.gathering.Gathering.has.Goals as goal

pub loop-next-init : goal.loop-next-init
loop-next-init g c = search (looking_starts, rules)

pub offset_bounds-held-place : goal.offset_bounds-held-place
offset_bounds-held-place g c = search (told_linked, rules)

pub bounds-held-place : goal.bounds-held-place
bounds-held-place g c = search (told_below, rules)

pub returns-then-held-place : goal.returns-then-held-place
returns-then-held-place g c = search (looking_found, rules)

pub loop-next-smaller : goal.loop-next-smaller
loop-next-smaller g c = search (looking_nearer, rules)

pub loop-next-preserved : goal.loop-next-preserved
loop-next-preserved g c = search (looking_goes, rules)

pub returns : goal.returns
returns g c = search (looking_ends, rules)
