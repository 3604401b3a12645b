use Rattle.std.proofs.Common.{map}
use Rattle.cm_validate_model.specs.Spaces.{spaces_of}
use Rattle.cm_match_model.specs.Imports.{seen_by}
use Rattle.cm_validate_model.specs.Imported.{IsAsImported, IsLoweredAsImported}
use Rattle.cm_match_model.proofs.ReachLaws.{all_any, reach, told_of}
use Rattle.cm_match_model.proofs.laws.imported_functions_reach_lifts.Goals as goal

pub returns : goal.returns
returns c = λ components sees linked.
    reach (seen_by sees (map spaces_of components)) (told_of IsAsImported IsLoweredAsImported (λ s. Unit {0}) (λ s u. c.functions_are_as_imported.ensures s) components (all_any components))
    (c.imported_functions_are_served.ensures _ linked)
