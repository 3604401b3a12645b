use Rattle.std.proofs.Common.{map}
use Rattle.cm_names.specs.Listed.{listed}
use Rattle.cm_wit_tables.specs.DeclaredViews.{declaration_view}
use Rattle.cm_wit_tables.proofs.LeadLaws.{lead_told}
use Rattle.cm_wit_tables.proofs.leading.all_lead.Goals as goal

pub returns : goal.returns
returns c = lead_told (map declaration_view c.args.declarations.now) (listed c.args.keys.now) c.in_ok-marks.marks.items c.deref.result.now c.each_has_types.result c.requires c.deref.ensures.value c.in_ok-marks.ensures.marked c.each_has_types.ensures
