use Rattle.rising.proofs.Composing.{becomes_holds}
use Rattle.closing.proofs.Vacancies.{closes_full, closes_empty}
use borrow.Author.Rules.{rules}
use Rattle.closing.proofs.close.Goals as goal

pub held-requires : goal.held-requires
held-requires c = let h = becomes_holds c.rise_all-count.ensures.risen c.requires.0 in h.read

pub frame-left-requires : goal.frame-left-requires
frame-left-requires c = becomes_holds c.rise_all-count.ensures.risen c.requires.0

pub returns-in_default-clause-closes : goal.returns-in_default-clause-closes
returns-in_default-clause-closes c =
    closes_full _ _ c.requires.0 c.rise_all-count.ensures.risen _ c.held.ensures.levels c.lowest_none.ensures (search rules)

pub returns-clause-closes : goal.returns-clause-closes
returns-clause-closes c =
    closes_empty _ _ c.requires.0 c.rise_all-count.ensures.risen _ c.held.ensures.levels c.lowest_none.ensures _ c.in-Some.is c.frame-left.ensures.frame
