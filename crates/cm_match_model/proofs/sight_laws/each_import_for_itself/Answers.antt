use Rattle.cm_match_model.proofs.SightLaws.{other_links, same_links}
use Rattle.cm_match_model.proofs.sight_laws.each_import_for_itself.Goals as goal

pub returns-clause-same : goal.returns-clause-same
returns-clause-same c = same_links

pub returns-clause-others : goal.returns-clause-others
returns-clause-others c = other_links
