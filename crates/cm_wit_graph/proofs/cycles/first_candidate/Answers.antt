use Rattle.std.proofs.Common.{arith}
use Rattle.cm_wit_graph.proofs.CycleLaws.{ranks_show}
use Rattle.cm_wit_graph.proofs.cycles.first_candidate.Goals as goal

pub returns : goal.returns
returns c = ranks_show c.args.edges.now c.args.ranks.now c.loop-from.from-index c.loop-from.least c.loop-from.invariant (omega arith)
