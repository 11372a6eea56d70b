use Rattle.automata.proofs.WordTests.{word_of}
use Rattle.printing.proofs.Prints.{print_refused, print_unknown, print_read}
use borrow.Author.Rules.{rules}
use Rattle.printing.proofs.print.print_run.Goals as goal

pub returns-in_err-image : goal.returns-in_err-image
returns-in_err-image c = search (print_refused, rules)

pub returns-then-not-symbols_below : goal.returns-then-not-symbols_below
returns-then-not-symbols_below c = search (print_unknown, rules)

pub print_known-requires : goal.print_known-requires
print_known-requires c = search (word_of, rules)

pub returns : goal.returns
returns c = search (print_read, rules)
