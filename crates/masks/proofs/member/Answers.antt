use Rattle.masks.specs.Sets.{member}
use lib.Bits.{and_mask}
use Rattle.masks.proofs.member.Goals as goal

pub returns : goal.returns
unfolding member
returns c = rw (and_mask _ 1)
