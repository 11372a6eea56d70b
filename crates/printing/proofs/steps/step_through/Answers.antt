use borrow.Author.Rules.{rules}
use Rattle.automata.proofs.WordTests.{symbol_known}
use Rattle.printing.proofs.Stepping.{stepping_next, stepped_last, stepped_table}
use Rattle.printing.proofs.steps.step_through.Goals as goal

pub reached-next-requires : goal.reached-next-requires
reached-next-requires c = search (symbol_known, rules)

pub loop-i-preserved : goal.loop-i-preserved
loop-i-preserved c = search (stepping_next, rules)

pub returns : goal.returns
returns c = record { last = search (stepped_last, rules); cases = search (stepped_table, rules) }
