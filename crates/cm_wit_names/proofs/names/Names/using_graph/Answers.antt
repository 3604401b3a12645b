use Rattle.std.proofs.Common.{arith}
use Rattle.cm_wit_names.specs.MentionViews.{mention_view}
use Rattle.cm_wit_names.proofs.GraphLaws.{using_graph_within}
use Rattle.cm_wit_names.proofs.names.Names.using_graph.Goals as goal

pub new-requires : goal.new-requires
new-requires c = using_graph_within mention_view c.args.self.now.mentions.items c.in_ok-using_edges.field-0.items c.len.result (omega arith) c.in_ok-using_edges.ensures
