use Rattle.std.proofs.lemmas.Result.{err_from_is_err_and}
use Rattle.automata.proofs.Reading.{head_alone, refusal_alone}
use borrow.Author.Rules.{rules}
use Rattle.automata.proofs.image.read_head.Goals as goal

pub returns-in_err-read_image : goal.returns-in_err-read_image
returns-in_err-read_image c =
    let p = err_from_is_err_and c.from_residual.result c.from_residual.ensures.1 in rw (p.1, p.2) (refusal_alone _ c.in_err-read_image.ensures)

pub returns : goal.returns
returns c = search (head_alone, rules)
