use Rattle.std.proofs.Common.{arith}
use Rattle.cm_binary.specs.Views.{progress}
use Rattle.cm_binary.proofs.ProgressLaws.{reaches_more, stops_inside}
use Rattle.cm_binary.proofs.front.Front.read_on.Goals as goal

pub loop-rest-preserved : goal.loop-rest-preserved
loop-rest-preserved c = reaches_more (progress c.args.self.now) (progress c.loop-rest.self) (progress c.read_next.new.self) c.args.bytes.now c.loop-rest.behind.now c.in-Ok.rest.now c.loop-rest.invariant c.in-Ok.ensures.ok

pub returns-in-Err-clause-inside : goal.returns-in-Err-clause-inside
returns-in-Err-clause-inside c = stops_inside (progress c.loop-rest.self) c.args.end c.args.bytes.now c.loop-rest.invariant.taken c.loop-rest.behind.now c.in-Err.error (λ i. omega (arith, c.type_inv.bytes i)) c.loop-rest.invariant.parts c.in-Err.ensures.err
