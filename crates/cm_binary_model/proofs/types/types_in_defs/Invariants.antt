use Rattle.std.proofs.Common.{◌≡◌, map, take}
use Rattle.std.specs.List.{sum_by}
use Rattle.cm_types.specs.DefTypes.{def_type_tree}
use Rattle.cm_binary_model.specs.Limits.{types_in_def}
use Rattle.cm_binary_model.specs.Measures.{saturate}
use Rattle.cm_binary_model.proofs.types.types_in_defs.Given as goal

abbrev pub invariant-loop-def : goal.invariant-loop-def
invariant-loop-def l = l.total ≡ saturate (sum_by types_in_def (map def_type_tree (take l.def-index l.defs)))
