use mathlib.Core.Path.{◌≡◌}
use lib.ListN.{length}
use Rattle.indexing.specs.Index.{Index}
use Rattle.indexing.proofs.index.gather.Given as goal

abbrev pub invariant-loop-place : goal.invariant-loop-place
invariant-loop-place l = record {
  even : length l.low ≡ length l.places;
  listed : Index l.level.0 l.place l.place l.end l.blockers.masks.now l.blockers.levels.now l.low l.places;
}
