use Rattle.std.proofs.Common.{sym, ◌∙◌}
use Rattle.cm_wit_names.specs.MentionViews.{mention_view, reference_view}
use Rattle.cm_wit_names.proofs.GraphLaws.{leads_some}
use Rattle.cm_wit_names.proofs.names.Names.leads_on.Goals as goal

pub returns-in-Some : goal.returns-in-Some
returns-in-Some c = leads_some mention_view c.args.self.now.mentions.items (reference_view c.args.refers) c.args.holding.now c.in-Some.number c.is_marked.result (sym c.in-Some.is ∙ c.target.ensures) c.requires c.is_marked.ensures
