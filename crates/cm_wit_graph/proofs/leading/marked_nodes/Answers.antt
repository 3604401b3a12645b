use Rattle.std.proofs.lemmas.Result.{IfOk-from_err}
use Rattle.cm_wit_graph.proofs.MarkLaws.{lists_none, lists_all}
use Rattle.cm_wit_graph.proofs.leading.marked_nodes.Goals as goal

pub loop-node-init : goal.loop-node-init
loop-node-init c = rw c.new-nodes.ensures.items (lists_none c.args.marks.now)

pub returns-in_err-push : goal.returns-in_err-push
returns-in_err-push c = IfOk-from_err c.from_residual.result _ c.from_residual.ensures.0

pub returns : goal.returns
returns c = λ a. (c.loop-node.invariant.sound a, lists_all c.args.marks.now c.loop-node.node c.loop-node.nodes.items c.loop-node.invariant c.loop-node-test.false a)
