use Rattle.std.proofs.Common.{length}
use Rattle.cm_wit_graph.proofs.components.Walk.close.Given as goal

abbrev pub decreases-loop-last : goal.decreases-loop-last
decreases-loop-last l = length l.self.pending.items
