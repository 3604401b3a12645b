use Rattle.std.proofs.Common.{[]}
use Rattle.std.proofs.lemmas.Result.{IfOk-from_err}
use Rattle.cm_wit_graph.specs.Marked.{marked_edge}
use Rattle.cm_wit_graph.proofs.EdgeLaws.{finds_none, finds_all}
use Rattle.cm_wit_graph.proofs.edges.marked_edges.Goals as goal

pub loop-edge-init : goal.loop-edge-init
loop-edge-init c = rw c.new-kept.ensures.items (finds_none (marked_edge c.args.marks.now) c.args.edges.now [])

pub returns-in_err-push : goal.returns-in_err-push
returns-in_err-push c = IfOk-from_err c.from_residual.result _ c.from_residual.ensures.0

pub returns : goal.returns
returns c = finds_all (marked_edge c.args.marks.now) c.args.edges.now c.loop-edge.edge-index [] c.loop-edge.kept.items c.loop-edge-test.false c.loop-edge.invariant
