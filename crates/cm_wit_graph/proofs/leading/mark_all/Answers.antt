use Rattle.std.proofs.Common.{◌∙◌, arith, refl, rules, get_or}
use Rattle.cm_wit_graph.proofs.MarkLaws.{marked_more}
use Rattle.cm_wit_graph.proofs.leading.mark_all.Goals as goal

pub loop-node-preserved : goal.loop-node-preserved
loop-node-preserved c = (c.in_ok-mark.ensures.len ∙ c.loop-node.invariant.0, marked_more c.args.nodes.now c.loop-node.node-index (get_or c.args.nodes.now c.loop-node.node-index 0) c.args.marks.now.items c.loop-node.marks.items c.mark.new.marks.items c.args.pending.now.items c.loop-node.pending.items c.mark.new.pending.items (omega arith) refl c.loop-node.invariant.1 c.in_ok-mark.ensures.marked)
