use Rattle.cm_wit_names.specs.MentionViews.{mention_view}
use Rattle.cm_wit_names.proofs.GraphLaws.{holds_all}
use Rattle.cm_wit_names.proofs.names.Names.holding.Goals as goal

pub returns : goal.returns
returns c = holds_all mention_view c.args.self.now.mentions.items c.in_ok-marks.marks.items c.in_ok-all.all.items c.in_ok-marks.ensures.sound c.in_ok-marks.ensures.all c.args.graph.now.edges c.requires.edges c.in_ok-all.ensures.marked
