use Rattle.blockers.specs.Tables.{SameRoom}
use Rattle.wordroom.specs.Tables.{SameWord}
use Rattle.checker.specs.Stage.{lent_in, terms_in, stage_in, record_in}
use Rattle.checker.proofs.Going.{GoesOn, distance}
use Rattle.checker.proofs.run.run.Given as goal

abbrev pub invariant-loop-image : goal.invariant-loop-image
invariant-loop-image l = GoesOn l.fn.image (lent_in l.fn.room l.fn.word) (terms_in l.terms) (stage_in l.room l.word l.run)
    × SameRoom l.fn.room l.room × SameWord l.fn.word l.word

abbrev pub decreases-loop-image : goal.decreases-loop-image
decreases-loop-image l = distance l.terms.allowance (record_in l.run)
