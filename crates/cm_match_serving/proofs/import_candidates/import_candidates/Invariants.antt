use Rattle.std.proofs.Common.{◌≡◌, List, map, take}
use Rattle.cm_types.specs.Types.{FuncTy, Ty}
use Rattle.cm_types_arena.specs.Externs.{extern_of}
use Rattle.cm_match_serving.specs.Candidates.{candidates_from, seen_exports}
use Rattle.cm_match_serving.specs.ExportTables.{HasExports}
use Rattle.cm_match_serving.specs.Sets.{set_by}
use Rattle.cm_match_serving.proofs.import_candidates.import_candidates.Given as goal

abbrev pub invariant-loop-import : goal.invariant-loop-import
invariant-loop-import l = HasExports l.exports (seen_exports l.components l.choices l.importer) → (types : List Ty) (funcs : List FuncTy)
    → l.row.items ≡ candidates_from (set_by l.components l.choices) l.importer (map (extern_of types funcs) (take l.import l.imports))
