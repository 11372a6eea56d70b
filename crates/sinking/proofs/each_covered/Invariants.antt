use lib.ListN.{length}
use Rattle.lists.specs.Lists.{any}
use Rattle.machine.specs.Machine.{covers}
use Rattle.machine.specs.Lent.{blockers_from, unstamped_room}
use Rattle.automata.proofs.EachSymbol.{EachTried}
use Rattle.sinking.proofs.each_covered.Given as goal

abbrev pub invariant-loop-s : goal.invariant-loop-s
invariant-loop-s g l =
    EachTried l.image (λ P. any (covers l.level.0 P) (blockers_from (unstamped_room l.blockers.masks.now l.blockers.levels.now) (length l.blockers.masks.now) 0))
    l.mask l.s-end l.s
