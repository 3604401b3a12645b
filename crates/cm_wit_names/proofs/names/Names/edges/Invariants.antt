use Rattle.std.proofs.Common.{map}
use Rattle.cm_wit_names.specs.MentionViews.{mention_view}
use Rattle.cm_wit_names.specs.Known.{leading_edge}
use Rattle.cm_wit_names.proofs.EdgeLaws.{Finds}
use Rattle.cm_wit_names.proofs.names.Names.edges.Given as goal

abbrev pub invariant-loop-mention : goal.invariant-loop-mention
invariant-loop-mention l = Finds mention_view (leading_edge (map mention_view l.self.mentions.items)) l.self.mentions.items l.mention-index l.edges.items
