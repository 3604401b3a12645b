use Rattle.std.proofs.Common.{◌≡◌, ℕ, map, drop}
use Rattle.std.specs.List.{list_all}
use Rattle.cm_binary_model.specs.Trees.{core_export_tree}
use Rattle.cm_validate_model.specs.Definitions.{CoreFuncDef}
use Rattle.cm_validate_model.specs.Spaces.{Spaces}
use Rattle.cm_validate_core.specs.CoreSpaces.{IsCoreOf}
use Rattle.cm_validate_core.specs.Instances.{is_export_there}
use Rattle.cm_validate_core.proofs.spaces.CoreSpaces.exports_are_there.Given as goal

-- those to come are there where all are
abbrev pub invariant-loop-export : goal.invariant-loop-export
invariant-loop-export l =
    (made : ℕ → CoreFuncDef) (s : Spaces) → IsCoreOf made l.self s
    → list_all (is_export_there s) (map core_export_tree (drop l.export-index l.exports)) ≡ list_all (is_export_there s) (map core_export_tree l.exports)
