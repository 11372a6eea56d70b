use Rattle.checker.proofs.Records.{blocked_is}
use Rattle.checker.specs.Stage.{record_in}
use Rattle.checker.proofs.record.Run.blocked.Goals as goal

pub returns : goal.returns
returns c = rw c.from.ensures (blocked_is (record_in c.args.self) (record_in c.counted.result) c.args.held c.args.pending c.args.hinted c.counted.ensures)
