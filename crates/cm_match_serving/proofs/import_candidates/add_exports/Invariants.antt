use Rattle.std.proofs.Common.{List, ◌++◌, map, take}
use Rattle.cm_types.specs.Types.{FuncTy, Ty}
use Rattle.cm_match_model.specs.Fitting.{NamedExport}
use Rattle.cm_match_serving.specs.ExportTables.{HasExports}
use Rattle.cm_validate_spaces.specs.cm_validate_entries.ComponentSpaces.{export_def}
use Rattle.cm_match_model.specs.Imports.{exports_from}
use Rattle.cm_match_serving.proofs.import_candidates.add_exports.Given as goal

abbrev pub invariant-loop-number : goal.invariant-loop-number
invariant-loop-number l = (types : List Ty) (funcs : List FuncTy) (before : List NamedExport) → HasExports l.fn.exports before
    → HasExports l.exports (before ++ exports_from l.component 0 (map (export_def types funcs) (take l.number l.entries)))
