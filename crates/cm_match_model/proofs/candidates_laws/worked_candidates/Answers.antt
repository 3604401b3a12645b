use Rattle.std.proofs.Common.{refl}
use Rattle.semver.proofs.OnLiterals.{semver_on_literals}
use Rattle.cm_match_model.proofs.candidates_laws.worked_candidates.Goals as goal

pub returns-clause-later : goal.returns-clause-later
unfolding semver_on_literals
returns-clause-later c = refl

pub returns-clause-major : goal.returns-clause-major
unfolding semver_on_literals
returns-clause-major c = refl

pub returns-clause-two : goal.returns-clause-two
unfolding semver_on_literals
returns-clause-two c = refl
