use Rattle.masks.proofs.Laws.{shifted_ones}
use Rattle.masks.proofs.full.Goals as goal

pub returns : goal.returns
returns c = shifted_ones 64 _ c.requires.1
