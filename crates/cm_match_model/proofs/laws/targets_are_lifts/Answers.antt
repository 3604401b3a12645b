use Rattle.std.proofs.Common.{map}
use Rattle.cm_validate_model.specs.Spaces.{spaces_of}
use Rattle.cm_match_model.specs.Imports.{seen_by}
use Rattle.cm_validate_model.specs.Named.{IsCoreWhole, IsLiftWhole}
use Rattle.cm_validate_model.specs.Valid.{IsValid}
use Rattle.cm_match_model.proofs.ReachLaws.{of_lift, told_of}
use Rattle.cm_match_model.proofs.laws.targets_are_lifts.Goals as goal

pub returns : goal.returns
returns c = λ components sees valid.
    of_lift (λ d. IsLiftWhole) (seen_by sees (map spaces_of components)) (told_of IsLiftWhole IsCoreWhole IsValid c.what_functions_name_is_there.ensures components valid)
