use Rattle.cm_wit_conforms.proofs.MoreLaws.{export_more}
use Rattle.cm_wit_conforms.proofs.laws.exports_more_change_nothing.Goals as goal

pub returns : goal.returns
returns c = export_more
