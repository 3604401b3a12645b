use Rattle.cm_match_model.proofs.RangeLaws.{exported_alone, fits_itself, wanted_alone}
use Rattle.cm_match_model.proofs.candidates_laws.names_fit.Goals as goal

pub returns-clause-itself : goal.returns-clause-itself
returns-clause-itself c = fits_itself

pub returns-clause-wanted : goal.returns-clause-wanted
returns-clause-wanted c = wanted_alone

pub returns-clause-exported : goal.returns-clause-exported
returns-clause-exported c = exported_alone
