use mathlib.Core.Path.{ap, ◌∙◌}
use Rattle.std.specs.Prelude.{Some}
use Rattle.exports.proofs.Reasons.{told_above, told_blocker, told_start, told_nothing}
use Rattle.exports.proofs.afa_why.Goals as goal

pub returns-in_default : goal.returns-in_default
returns-in_default c = told_above _ _ _ _ _ c.type_inv.levels c.in_default.ensures

pub returns-in-None : goal.returns-in-None
returns-in-None c = told_nothing _ _ _ _ _ c.in-Ok.ensures.1 _ c.why.ensures c.in-None.is

pub returns-in-Some-ByBlocker : goal.returns-in-Some-ByBlocker
returns-in-Some-ByBlocker c = told_blocker _ _ _ _ _ c.in-Ok.ensures.1 _ c.why.ensures _ c.in-Some-ByBlocker.its (c.in-Some-ByBlocker.is ∙ ap Some c.in-Some-ByBlocker.field-0-is) c.from.ensures

pub returns-in-Some-ByStart : goal.returns-in-Some-ByStart
returns-in-Some-ByStart c = told_start _ _ _ _ _ c.in-Ok.ensures.1 _ c.why.ensures c.in-Some-ByStart.q (c.in-Some-ByStart.is ∙ ap Some c.in-Some-ByStart.field-0-is) c.from-in-Some-ByStart.ensures
