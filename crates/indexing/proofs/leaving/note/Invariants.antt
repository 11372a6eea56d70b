use Rattle.indexing.specs.Index.{Noted}
use Rattle.indexing.proofs.leaving.note.Given as goal

abbrev pub invariant-loop-i : goal.invariant-loop-i
invariant-loop-i l = Noted l.i l.masks l.lacks
