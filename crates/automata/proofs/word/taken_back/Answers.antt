use Rattle.automata.proofs.WordTests.{back_starts, back_known, back_goes}
use Rattle.automata.proofs.word.taken_back.Goals as goal

pub loop-s-init : goal.loop-s-init
loop-s-init c = rw (c.into_iter-s-iterator.ensures.into_iter_gives, c.rev-s-items.ensures.source, c.iter.ensures.rest) (back_starts _)

pub backward-case-requires : goal.backward-case-requires
backward-case-requires c = back_known c.loop-s.invariant _ _ c.in-Some.ensures.steps c.requires

pub loop-s-preserved : goal.loop-s-preserved
loop-s-preserved c = back_goes c.loop-s.invariant _ _ c.in-Some.ensures.steps _ c.backward-case.ensures.states
