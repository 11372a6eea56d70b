use Rattle.std.proofs.lemmas.Result.{err_from_is_err_and}
use Rattle.automata.specs.Answers.{word_number}
use Rattle.automata.proofs.WordTests.{word_of, test_read, test_refused, test_unknown, test_accepts}
use borrow.Author.Rules.{rules}
use Rattle.automata.proofs.word.word_test.Goals as goal

pub returns-in_err-image : goal.returns-in_err-image
unfolding word_number
returns-in_err-image c =
    let p = err_from_is_err_and c.from_residual.result c.from_residual.ensures.1 in rw (p.1, p.2) (test_refused _ _ c.in_err-image.ensures)

pub returns-then-not-symbols_below : goal.returns-then-not-symbols_below
unfolding word_number
returns-then-not-symbols_below c = test_read _ _ _ c.in_ok-image.ensures (search (test_unknown, rules))

pub taken_back-requires : goal.taken_back-requires
taken_back-requires c = search (word_of, rules)

pub returns : goal.returns
unfolding word_number
returns c = test_read _ _ _ c.in_ok-image.ensures (search (test_accepts, rules))
