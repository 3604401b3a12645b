use Rattle.cm_wit_conforms.proofs.ItselfLaws.{fits_itself}
use Rattle.cm_wit_conforms.proofs.laws.signatures_fit_themselves.Goals as goal

pub returns : goal.returns
returns c = fits_itself
