use Rattle.std.proofs.Common.{refl}
use Rattle.semver.proofs.OnLiterals.{semver_on_literals}
use Rattle.cm_match_model.proofs.candidates_laws.worked_fits.Goals as goal

pub returns-clause-earlier : goal.returns-clause-earlier
unfolding semver_on_literals
returns-clause-earlier c = refl

pub returns-clause-minor : goal.returns-clause-minor
unfolding semver_on_literals
returns-clause-minor c = refl

pub returns-clause-patch : goal.returns-clause-patch
unfolding semver_on_literals
returns-clause-patch c = refl

pub returns-clause-candidate_release : goal.returns-clause-candidate_release
unfolding semver_on_literals
returns-clause-candidate_release c = refl

pub returns-clause-candidates_in_order : goal.returns-clause-candidates_in_order
unfolding semver_on_literals
returns-clause-candidates_in_order c = refl

pub returns-clause-after_candidate : goal.returns-clause-after_candidate
unfolding semver_on_literals
returns-clause-after_candidate c = refl

pub returns-clause-build : goal.returns-clause-build
unfolding semver_on_literals
returns-clause-build c = refl
