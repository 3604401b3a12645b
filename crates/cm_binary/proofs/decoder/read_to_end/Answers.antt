use Rattle.cm_binary.specs.Views.{progress}
use Rattle.cm_binary.proofs.PieceLaws.{ends_early}
use Rattle.cm_binary.proofs.decoder.read_to_end.Goals as goal

pub returns-then-is_want-clause-ok : goal.returns-then-is_want-clause-ok
returns-then-is_want-clause-ok c = ends_early (progress c.args.front.now) (progress c.read_on-error.new.self) c.args.end c.args.bytes.now c.read_on-error.result.0.now c.read_on-error.result.1 c.in-Fault.fault c.in-Fault.is (c.is_want.ensures.0 c.if-is_want.true) c.read_on-error.ensures.reached c.read_on-error.ensures.stopped
