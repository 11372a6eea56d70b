use Rattle.automata.specs.Image.{check_image}
use Rattle.automata.proofs.Checks.{image_checks}
use Rattle.automata.proofs.image.check_image.Goals as goal

pub returns-then-image-lt20 : goal.returns-then-image-lt20
unfolding check_image
returns-then-image-lt20 c = search image_checks depth 12

pub returns-then-outside : goal.returns-then-outside
unfolding check_image
returns-then-outside c = search image_checks depth 12

pub returns-then-outside-2 : goal.returns-then-outside-2
unfolding check_image
returns-then-outside-2 c = search image_checks depth 12

pub returns-then-rows-gt4096 : goal.returns-then-rows-gt4096
unfolding check_image
returns-then-rows-gt4096 c = search image_checks depth 12

pub returns-then-image-from : goal.returns-then-image-from
unfolding check_image
returns-then-image-from c = search image_checks depth 12

pub returns-then-not-within : goal.returns-then-not-within
unfolding check_image
returns-then-not-within c = search image_checks depth 12

pub returns-then-not-within-2 : goal.returns-then-not-within-2
unfolding check_image
returns-then-not-within-2 c = search image_checks depth 12

pub returns-then-not-pairs_hold : goal.returns-then-not-pairs_hold
unfolding check_image
returns-then-not-pairs_hold c = search image_checks depth 12

pub returns-then-not-rows_hold : goal.returns-then-not-rows_hold
unfolding check_image
returns-then-not-rows_hold c = search image_checks depth 12

pub returns : goal.returns
unfolding check_image
returns c = search image_checks depth 12
