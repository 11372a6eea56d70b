use borrow.Author.Rules.{rules}
use native.Mathlib.Omega.{arith}
use Rattle.writing.proofs.Placing.{one_digit_place, one_digit_bytes, last_digit_place, last_digit_near, last_digit_fits, last_digit_bytes}
use Rattle.writing.proofs.+put_number.Goals as goal

-- the call of itself: the number falls, and there is room for 20 digits
pub put_number-next-requires : goal.put_number-next-requires
put_number-next-requires t c = (omega arith, search rules)

pub returns-then-number-lt10-clause-place : goal.returns-then-number-lt10-clause-place
returns-then-number-lt10-clause-place t c = search (one_digit_place, rules)

pub returns-then-number-lt10-clause-bytes : goal.returns-then-number-lt10-clause-bytes
returns-then-number-lt10-clause-bytes t c = search (one_digit_bytes, rules)

pub overflow_add-result-2 : goal.overflow_add-result-2
overflow_add-result-2 t c = search (last_digit_fits, rules)

pub returns-clause-place : goal.returns-clause-place
returns-clause-place t c = search (last_digit_place, rules)

pub returns-clause-near : goal.returns-clause-near
returns-clause-near t c = search (last_digit_near, rules)

pub returns-clause-bytes : goal.returns-clause-bytes
returns-clause-bytes t c = search (last_digit_bytes, rules)
