use Rattle.growing.proofs.Tries.{StatesTrying}
use Rattle.growing.proofs.trying.by_chains.Given as goal

abbrev pub invariant-loop-q : goal.invariant-loop-q
invariant-loop-q g l = StatesTrying l.pending l.q-end l.q l.grown l.lists
