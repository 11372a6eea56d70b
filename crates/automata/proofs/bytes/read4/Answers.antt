use Prim.Native.Nat.{◌+◌}
use mathlib.Core.Path.{◌≡◌}
use native.Mathlib.Omega.{arith}
use Rattle.automata.specs.Bytes.{little2, little4}
use Rattle.automata.proofs.bytes.read4.Goals as goal

pub returns : goal.returns
unfolding little2 little4
returns c =
    let e3 : c.args.at + 2 + 1 ≡ c.args.at + 3 = omega arith in
    rw e3 (omega (arith, c.from_le_bytes.ensures))
