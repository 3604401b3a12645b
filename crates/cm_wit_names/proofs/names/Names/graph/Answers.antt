use Rattle.std.proofs.Common.{arith}
use Rattle.cm_wit_names.specs.MentionViews.{mention_view}
use Rattle.cm_wit_names.proofs.GraphLaws.{graph_within}
use Rattle.cm_wit_names.proofs.names.Names.graph.Goals as goal

pub new-requires : goal.new-requires
new-requires c = graph_within mention_view c.args.self.now.mentions.items c.in_ok-edges.field-0.items c.len.result (omega arith) c.in_ok-edges.ensures
