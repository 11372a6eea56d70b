use Rattle.std.proofs.Common.{rules}
use Rattle.emptiness.proofs.Reading.{reads_on, stays_read}
use Rattle.emptiness.proofs.read_full.Goals as goal
use Rattle.emptiness.proofs.read_full.Goals.{in-Ok, in-Err+else-ne}

pub loop-preserved : goal.loop-preserved
loop-preserved g c =
    elim c.match-read.branch [
      | in-Ok w ↦ (
        search rules,
        search rules,
        rw w.size-is (reads_on c.loop.bytes c.read.new.buf c.loop.size c.loop.invariant.1 _ _ _ c.loop.invariant.2 w.in-Ok.more w.in-Ok.ensures.bound.0 w.in-Ok.ensures.bytes.0),
      )
      | in-Err+else-ne w ↦ (
        search rules,
        search rules,
        rw w.size-is (stays_read c.loop.bytes c.read.new.buf c.loop.size c.loop.invariant.1 _ _ _ c.loop.invariant.2 w.in-Err.ensures.bytes),
      )
    ]
