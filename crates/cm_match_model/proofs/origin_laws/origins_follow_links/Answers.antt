use Rattle.cm_match_model.proofs.OriginLaws.{brought_follows, defined_itself}
use Rattle.cm_match_model.proofs.origin_laws.origins_follow_links.Goals as goal

pub returns-clause-defined : goal.returns-clause-defined
returns-clause-defined c = defined_itself

pub returns-clause-brought : goal.returns-clause-brought
returns-clause-brought c = brought_follows
