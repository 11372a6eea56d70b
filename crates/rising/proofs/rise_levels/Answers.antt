use Prim.Native.Nat.{◌≤◌}
use native.Mathlib.Omega.{arith}
use borrow.Author.Rules.{rules}
use Rattle.rising.proofs.Levels.{levels_start, levels_go, levels_end, levels_last}
use Rattle.rising.proofs.rise_levels.Goals as goal

pub loop-level-init : goal.loop-level-init
loop-level-init c = record { risen = search (levels_start, rules); same = search rules }

pub loop-level-preserved : goal.loop-level-preserved
loop-level-preserved c = record { risen = search (levels_go, rules); same = search rules }

pub returns-clause-risen : goal.returns-clause-risen
returns-clause-risen c = search (levels_end, rules)

pub returns-2-clause-risen : goal.returns-2-clause-risen
returns-2-clause-risen c = let last : c.args.top.0 ≤ c.loop-level.level = omega arith in search (levels_last, last, rules)
