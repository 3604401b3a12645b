use Rattle.cm_match_model.proofs.SightLaws.{chosen_alone}
use Rattle.cm_match_model.proofs.sight_laws.a_chosen_link_is_the_only_candidate.Goals as goal

pub returns : goal.returns
returns c = chosen_alone
