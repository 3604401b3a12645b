use Rattle.std.proofs.Common.{inl, refl}
use Rattle.cm_validate_spaces.proofs.WalkLaws.{none_valid}
use Rattle.cm_validate_spaces.proofs.walk.index_spaces.Goals as goal

pub returns-in_default-clause-fault : goal.returns-in_default-clause-fault
returns-in_default-clause-fault c = inl (refl, none_valid)
