use mathlib.Core.Path.{sym}
use Rattle.lists.proofs.Tests.{tests}
use Rattle.automata.specs.Image.{outside}
use Rattle.automata.proofs.image.outside.Goals as goal

pub returns-then-number-eq0 : goal.returns-then-number-eq0
unfolding outside
returns-then-number-eq0 c = sym (search tests)

pub returns-else-number-eq0 : goal.returns-else-number-eq0
unfolding outside
returns-else-number-eq0 c = sym (search tests)
