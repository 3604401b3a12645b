use Rattle.cm_shims_plain.proofs.OldLaws.{read_as_before}
use Rattle.cm_shims_plain.proofs.OwnPlaces.{own_place}
use Rattle.cm_shims_plain.proofs.laws.nothing_old_changes.Goals as goal

pub returns-clause-read : goal.returns-clause-read
returns-clause-read c = read_as_before

pub returns-clause-places : goal.returns-clause-places
returns-clause-places c = λ sections section item lt. own_place sections section item lt
