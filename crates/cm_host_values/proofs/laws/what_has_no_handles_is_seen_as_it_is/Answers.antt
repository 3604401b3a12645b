use Rattle.cm_host_values.proofs.IndexedLaws.{without}
use Rattle.cm_host_values.proofs.SeesLaws.{same}
use Rattle.cm_host_values.proofs.laws.what_has_no_handles_is_seen_as_it_is.Goals as goal

pub returns-clause-types : goal.returns-clause-types
returns-clause-types c = without

pub returns-clause-values : goal.returns-clause-values
returns-clause-values c = same
