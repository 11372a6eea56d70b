use Rattle.std.proofs.Common.{rules}
use mathlib.Core.Path.{sym}
use Rattle.checker.specs.Stage.{record_in}
use Rattle.checker.proofs.Starting.{starts_alike}
use Rattle.checker.proofs.Calling.{begin_refuses, begin_goes}
use Rattle.checker.proofs.begin.begin.Goals as goal

pub returns-in_err-image-clause-begun : goal.returns-in_err-image-clause-begun
returns-in_err-image-clause-begun c = begin_refuses _ _ _ c.in_err-image.field-0.0 (sym c.in_err-image.ensures.number) (search rules)

pub returns-clause-begun : goal.returns-clause-begun
returns-clause-begun c =
    begin_goes _ _ _ (sym c.in_ok-image.ensures.number) c.clear_rooms.ensures.cleared (record_in c.start.result)
    (starts_alike c.in_ok-image.ensures.image c.in_ok-image.ensures.given c.start.ensures)
