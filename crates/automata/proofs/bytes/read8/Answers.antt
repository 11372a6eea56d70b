use Prim.Native.Nat.{◌+◌}
use mathlib.Core.Path.{◌≡◌}
use native.Mathlib.Omega.{arith}
use Rattle.automata.specs.Bytes.{little2, little4, little8}
use Rattle.automata.proofs.bytes.read8.Goals as goal

pub returns : goal.returns
unfolding little2 little4 little8
returns c =
    let e3 : c.args.at + 2 + 1 ≡ c.args.at + 3 = omega arith in
    let e5 : c.args.at + 4 + 1 ≡ c.args.at + 5 = omega arith in
    let e6 : c.args.at + 4 + 2 ≡ c.args.at + 6 = omega arith in
    let e7 : c.args.at + 6 + 1 ≡ c.args.at + 7 = omega arith in
    rw (e3, e5, e6, e7) (omega (arith, c.from_le_bytes.ensures))
