use Rattle.hitting.proofs.Linking.{slot_made}
use Rattle.hitting.proofs.slots.slot_of.Goals as goal

pub returns : goal.returns
returns c = slot_made _ _ c.mix.ensures _ c.requires
