use borrow.Author.Rules.{rules}
use Rattle.indexing.proofs.Lacking.{lack_passes, passes_on, passes_one, finds_on}
use Rattle.indexing.proofs.leaving.next_inside.Goals as goal

pub returns-then-subset : goal.returns-then-subset
returns-then-subset c =
    let before = lack_passes c.requires.0 c.args.mask c.lacked.ensures (search rules) c.in-Some.ensures.before in
    record { before = passes_on c.loop-i.invariant.passed before; below = search rules; passes = search rules }

pub loop-i-preserved : goal.loop-i-preserved
loop-i-preserved c =
    let before = lack_passes c.requires.0 c.args.mask c.lacked.ensures (search rules) c.in-Some.ensures.before in
    record { passed = passes_one (passes_on c.loop-i.invariant.passed before) (search rules) c.subset.ensures (search rules); noted = search rules }

pub returns : goal.returns
returns c =
    let before = lack_passes c.requires.0 c.args.mask c.lacked.ensures (search rules) c.in_default.ensures in
    finds_on (passes_on c.loop-i.invariant.passed before) _ c.next_from-2.ensures
