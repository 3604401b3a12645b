use Rattle.cm_match_model.proofs.RangeLaws.{compatible_itself, prerelease_range, release_range}
use Rattle.cm_match_model.proofs.candidates_laws.compatible_versions.Goals as goal

pub returns-clause-release : goal.returns-clause-release
returns-clause-release c = release_range

pub returns-clause-prerelease : goal.returns-clause-prerelease
returns-clause-prerelease c = prerelease_range

pub returns-clause-itself : goal.returns-clause-itself
returns-clause-itself c = compatible_itself
