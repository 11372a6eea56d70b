use Rattle.std.proofs.lemmas.Result.{err_from_is_err_and}
use Rattle.automata.proofs.Reading.{none_refused, refused}
use borrow.Author.Rules.{rules}
use Rattle.automata.proofs.image.read_image.Goals as goal

pub returns-in_err-check_image : goal.returns-in_err-check_image
returns-in_err-check_image c =
    let p = err_from_is_err_and c.from_residual.result c.from_residual.ensures.1 in
    rw (p.1, p.2) (refused _ _ c.in_err-check_image.ensures)

pub returns : goal.returns
returns c = search (none_refused, rules)
