use Rattle.std.proofs.Common.{take}
use Rattle.cm_wit_graph.specs.DepthFirst.{Orders, needs_of}
use Rattle.cm_wit_graph.proofs.depth_first.place_all.Given as goal

abbrev pub invariant-loop-node : goal.invariant-loop-node
invariant-loop-node l = Orders (needs_of l.rows) l.initial.order.keys (take l.node-index l.nodes) l.order.keys
