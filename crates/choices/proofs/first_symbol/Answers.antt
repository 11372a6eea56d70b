use Rattle.choices.proofs.Symbols.{tried_all, try_inside, try_lacking, find_bottom, skips_on, try_covered, find_open}
use borrow.Author.Rules.{rules}
use Rattle.choices.proofs.first_symbol.Goals as goal

pub symbols-preserved-then-subset : goal.symbols-preserved-then-subset
symbols-preserved-then-subset c = search (try_inside, rules)

pub symbols-preserved-then-is_some : goal.symbols-preserved-then-is_some
symbols-preserved-then-is_some c = search (try_lacking, rules)

pub returns-then-eq : goal.returns-then-eq
returns-then-eq c = search (find_bottom, rules)

pub symbols-preserved : goal.symbols-preserved
symbols-preserved c = search (try_covered, rules)

pub loop-i-preserved : goal.loop-i-preserved
loop-i-preserved c = search (skips_on, rules)

pub returns-in-symbols : goal.returns-in-symbols
returns-in-symbols c = search (find_open, rules)

pub returns : goal.returns
returns c = search (tried_all, rules)
