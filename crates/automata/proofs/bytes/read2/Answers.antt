use native.Mathlib.Omega.{arith}
use Rattle.automata.specs.Bytes.{little2}
use Rattle.automata.proofs.bytes.read2.Goals as goal

pub returns : goal.returns
unfolding little2
returns c = omega (arith, c.from_le_bytes.ensures)
