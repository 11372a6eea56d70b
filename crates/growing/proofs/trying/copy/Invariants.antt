use Prim.Native.Nat.{◌*◌}
use Rattle.growing.specs.Kept.{Copied}
use Rattle.growing.proofs.trying.copy.Given as goal

abbrev pub invariant-loop-i : goal.invariant-loop-i
invariant-loop-i l = Copied (2 * l.i) l.from l.to
