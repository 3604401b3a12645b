use Rattle.std.proofs.Common.{arith}
use Rattle.std.proofs.lemmas.Result.{IfOk-from_err}
use Rattle.cm_wit_graph.proofs.EdgeLaws.{marks_end}
use Rattle.cm_wit_graph.proofs.edges.named_marks.Goals as goal

pub returns-in_err-marks-clause-len : goal.returns-in_err-marks-clause-len
returns-in_err-marks-clause-len c = IfOk-from_err c.from_residual.result _ c.from_residual.ensures.0

pub returns-in_err-marks-clause-marked : goal.returns-in_err-marks-clause-marked
returns-in_err-marks-clause-marked c = IfOk-from_err c.from_residual.result _ c.from_residual.ensures.0

pub returns-clause-len : goal.returns-clause-len
returns-clause-len c = omega (arith, c.loop-target.marks.ok.0, c.loop-target.invariant.size)

pub returns-clause-marked : goal.returns-clause-marked
returns-clause-marked c = marks_end c.args.count c.args.named.now c.loop-target.target-index c.loop-target.marks.items c.loop-target-test.false c.loop-target.invariant
