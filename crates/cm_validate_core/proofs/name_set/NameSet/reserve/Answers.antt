use Rattle.std.proofs.Common.{ap}
use Rattle.std.specs.List.{list_any}
use Rattle.std.specs.Str.{bytes_eq}
use Rattle.cm_validate_core.specs.Names.{without_case}
use Rattle.cm_validate_core.proofs.name_set.NameSet.reserve.Goals as goal

pub returns : goal.returns
returns c = λ name. ap (list_any (bytes_eq (without_case name))) c.reserve.ensures
