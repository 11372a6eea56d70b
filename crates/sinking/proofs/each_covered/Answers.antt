use borrow.Author.Rules.{rules}
use Rattle.automata.proofs.EachSymbol.{each_starts, each_known}
use Rattle.sinking.proofs.Covered.{covered_goes, covered_fails, covered_all}
use Rattle.sinking.proofs.each_covered.Goals as goal

pub loop-s-init : goal.loop-s-init
loop-s-init g c = search (each_starts, rules)

pub backward-p-requires : goal.backward-p-requires
backward-p-requires g c = search (each_known, rules)

pub returns-then-not-is_covered : goal.returns-then-not-is_covered
returns-then-not-is_covered g c = search (covered_fails, rules)

pub loop-s-preserved : goal.loop-s-preserved
loop-s-preserved g c = search (covered_goes, c.loop-s.invariant, rules)

pub returns : goal.returns
returns g c = search (covered_all, rules)
