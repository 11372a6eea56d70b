use Rattle.blockers.specs.Answers.{Skips}
use Rattle.blockers.specs.Tables.{held_in}
use Rattle.choices.proofs.Symbols.{SymbolsTried}
use Rattle.choices.proofs.first_symbol.Given as goal

abbrev pub invariant-loop-i : goal.invariant-loop-i
invariant-loop-i l = Skips l.pending.blockers.now.masks.now l.pending.blockers.now.levels.now l.pending.below.0 l.p 0 l.i

abbrev pub invariant-symbols : goal.invariant-symbols
invariant-symbols l = SymbolsTried l.pending.image.now (held_in l.pending.blockers.now) l.pending.below.0 l.pending.x l.s-end l.s
