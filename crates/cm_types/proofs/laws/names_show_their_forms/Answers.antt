use Rattle.cm_types.proofs.ExternNameLaws.{form_again}
use Rattle.cm_types.proofs.laws.names_show_their_forms.Goals as goal

pub returns : goal.returns
returns c = form_again
